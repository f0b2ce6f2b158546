-- A header that is written is read again, and what is read was written.
use Rattle.std.proofs.Common.{◌≡◌, ℕ, ◌+◌, ◌-◌, ◌^◌, ◌<◌, ◌≤◌, Bool, true, false, cond, not, ltb, eqb, List, ◌++◌, length, take, drop, Result, Ok, Err, IfOk, nat_eq, refl, sym, ap, ◌∙◌, append_assoc, arith}
use Rattle.std.proofs.lemmas.Bool.{ltb-false, le-ltb, eq-eqb, eqb-true}
use Rattle.std.proofs.lemmas.List.{take_at, take-append-drop, take_rest, length-append}
use Rattle.std.specs.List.{starts_with}
use Rattle.std.specs.Cmp.Lexicographic.{same_text}
use Rattle.std.specs.Borrow.{Bor}
use Rattle.log_frames.specs.declared.frame.Place.{Place}
use Rattle.log_frames.specs.declared.header.HeaderError.{HeaderError}
use Rattle.log_frames.specs.declared.header.HeaderError.TheVariants.{Short, NotALog, Version, BadCheck, Width}
use Rattle.log_frames.specs.Digest.{digest}
use Rattle.log_frames.specs.Frames.{be64, number_at, Gives}
use Rattle.log_frames.specs.Header.{magic, fields, first_place, header, header_at}
use Rattle.log_frames.proofs.DigestRange.{digest-lt}
use Rattle.log_frames.proofs.Numbers.{IsBytes, number-again, number-takes}

abbrev pub done : {A : Type 0} → A → Result A HeaderError
done x = Ok x

-- a header, and what follows it, part by part
magic_first : (width : ℕ) (rest : List ℕ) → header width ++ rest ≡ magic ++ (be64 1 ++ (be64 width ++ (be64 (digest (fields width)) ++ rest)))
unfolding header
magic_first width rest = refl

-- what is written is read again, whatever follows
pub header-again : (width : ℕ) (rest : List ℕ) → width < 2 ^ 64 → header_at width (header width ++ rest) ≡ done rest
unfolding header_at header
header-again width rest h =
    let bytes : List ℕ = header width ++ rest in
    let check : ℕ = digest (fields width) in
    let long : ltb (length bytes) 32 ≡ false = le-ltb _ _ (omega arith) in
    let version-is : number_at 8 bytes ≡ 1 = number-again magic 1 (be64 width ++ (be64 check ++ rest)) 8 refl (omega arith) in
    let width-is : number_at 16 bytes ≡ width = number-again (magic ++ be64 1) width (be64 check ++ rest) 16 refl h in
    let check-is : number_at 24 bytes ≡ check = number-again (fields width) check rest 24 refl (digest-lt (fields width)) in
    rw (long, version-is, check-is, eq-eqb check check refl, width-is, eq-eqb width width refl) refl

-- what is read from bytes is the header at their start
pub record Takes (width : ℕ) (bytes rest : List ℕ) : Type 0 where
  pub parts : bytes ≡ header width ++ rest
  pub check : number_at 24 bytes ≡ digest (fields width)

-- a test that did not end the read
guard_ok : {A : Type 0} (b : Bool) (d : HeaderError) (r : Result A HeaderError) (y : A) → cond b (Err d) r ≡ done y → (b ≡ false) × (r ≡ done y)
guard_ok true d r y e = absurd cc
guard_ok false d r y e = (refl, e)

ok_is : {A : Type 0} (x y : A) → done x ≡ done y → x ≡ y
ok_is x y e = cc

is_true : (b : Bool) → not b ≡ false → true ≡ b
is_true true e = refl
is_true false e = absurd cc

-- the fields that passed the tests are those of the header
fields-read : (width : ℕ) (bytes : List ℕ) → IsBytes bytes → 32 ≤ length bytes → magic ≡ take 8 bytes → number_at 8 bytes ≡ 1 → number_at 16 bytes ≡ width
    → bytes ≡ fields width ++ drop 24 bytes
fields-read width bytes fits long magic-is version-is width-is =
    sym (take-append-drop 8 bytes)
    ∙ ap (λ (x : List ℕ). x ++ drop 8 bytes) (sym magic-is)
    ∙ ap (λ (x : List ℕ). magic ++ x) (number-takes 8 bytes fits (omega arith) ∙ ap (λ (n : ℕ). be64 n ++ drop 16 bytes) version-is)
    ∙ ap (λ (x : List ℕ). magic ++ (be64 1 ++ x)) (number-takes 16 bytes fits (omega arith) ∙ ap (λ (n : ℕ). be64 n ++ drop 24 bytes) width-is)

pub header-takes : (width : ℕ) (bytes rest : List ℕ) → IsBytes bytes → header_at width bytes ≡ done rest → Takes width bytes rest
unfolding header_at header
header-takes width bytes rest fits e =
    let version : ℕ = number_at 8 bytes in
    let found : ℕ = number_at 16 bytes in
    let check : ℕ = number_at 24 bytes in
    let last : Result (List ℕ) HeaderError = Ok (drop 32 bytes) in
    let r3 : Result (List ℕ) HeaderError = cond (not (eqb found width)) (Err (Width found)) last in
    let r2 : Result (List ℕ) HeaderError = cond (not (eqb check (digest (take 24 bytes)))) (Err BadCheck) r3 in
    let r1 : Result (List ℕ) HeaderError = cond (not (eqb version 1)) (Err (Version version)) r2 in
    let a = guard_ok (ltb (length bytes) 32) Short (cond (not (starts_with nat_eq bytes magic)) (Err NotALog) r1) rest e in
    let b = guard_ok (not (starts_with nat_eq bytes magic)) NotALog r1 rest a.1 in
    let c = guard_ok (not (eqb version 1)) (Version version) r2 rest b.1 in
    let d = guard_ok (not (eqb check (digest (take 24 bytes)))) BadCheck r3 rest c.1 in
    let f = guard_ok (not (eqb found width)) (Width found) last rest d.1 in
    let long : 32 ≤ length bytes = ltb-false _ _ a.0 in
    let magic-is : magic ≡ take 8 bytes = same_text magic (take 8 bytes) (is_true (starts_with nat_eq bytes magic) b.0) in
    let version-is : version ≡ 1 = eqb-true _ _ (sym (is_true (eqb version 1) c.0)) in
    let width-is : found ≡ width = eqb-true _ _ (sym (is_true (eqb found width) f.0)) in
    let begins : bytes ≡ fields width ++ drop 24 bytes = fields-read width bytes fits long magic-is version-is width-is in
    let check-is : check ≡ digest (fields width) = eqb-true _ _ (sym (is_true (eqb check (digest (take 24 bytes))) d.0)) ∙ ap (λ (x : List ℕ). digest (take 24 x)) begins ∙ ap digest (take_at (fields width) (drop 24 bytes) 24 refl) in
    let rest-is : drop 32 bytes ≡ rest = ok_is (drop 32 bytes) rest f.1 in
    let end : drop 24 bytes ≡ be64 (digest (fields width)) ++ rest =
    number-takes 24 bytes fits (omega arith) ∙ ap (λ (n : ℕ). be64 n ++ drop 32 bytes) check-is ∙ ap (λ (x : List ℕ). be64 (digest (fields width)) ++ x) rest-is in
    record { parts = begins ∙ ap (λ (x : List ℕ). fields width ++ x) end ∙ sym (append_assoc (fields width) (be64 (digest (fields width))) rest); check = check-is }

-- what a reading function returned is behind a header
pub has_parts : (width : ℕ) (bytes : List ℕ) (r : Result (Place × Bor (List ℕ)) HeaderError) → IsBytes bytes → Gives (λ found. found.1.now) r (header_at width bytes)
    → IfOk r (λ found. bytes ≡ header width ++ found.1.now)
has_parts width bytes (Ok found) fits e = (header-takes width bytes found.1.now fits e).parts
has_parts width bytes (Err why) fits e = tt

pub has_place : (width : ℕ) (bytes : List ℕ) (r : Result (Place × Bor (List ℕ)) HeaderError) → IsBytes bytes → Gives (λ found. found.1.now) r (header_at width bytes)
    → IfOk r (λ found. found.0.at ≡ 32) → IfOk r (λ found. found.0.digest ≡ number_at 24 bytes) → IfOk r (λ found. found.0 ≡ first_place width)
has_place width bytes (Ok found) fits e at-is digest-is = rw (sym (header-takes width bytes found.1.now fits e).check, sym at-is, sym digest-is) refl
has_place width bytes (Err why) fits e at-is digest-is = tt

-- the number of bytes of a header
pub length-header : (width : ℕ) → length (header width) ≡ 32
unfolding header
length-header width = refl

pub has_end : (width : ℕ) (bytes : List ℕ) (r : Result (Place × Bor (List ℕ)) HeaderError) → IsBytes bytes → Gives (λ found. found.1.now) r (header_at width bytes)
    → IfOk r (λ found. found.0.at ≡ 32) → IfOk r (λ found. found.0.at + length found.1.now ≡ length bytes)
has_end width bytes (Ok found) fits e at-is =
    let rest : List ℕ = found.1.now in
    omega (arith, at-is, ap length (header-takes width bytes rest fits e).parts, length-append (header width) rest, length-header width)
has_end width bytes (Err why) fits e at-is = tt

-- a header that passes the tests is read
pub header-reads : (width : ℕ) (bytes : List ℕ) → 32 ≤ length bytes → starts_with nat_eq bytes magic ≡ true → number_at 8 bytes ≡ 1 → number_at 24 bytes ≡ digest (take 24 bytes) → number_at 16 bytes ≡ width
    → header_at width bytes ≡ done (take (length bytes - 32) (drop 32 bytes))
unfolding header_at
header-reads width bytes long begins version-is check-is width-is =
    let enough : ltb (length bytes) 32 ≡ false = le-ltb _ _ long in
    let version : eqb (number_at 8 bytes) 1 ≡ true = eq-eqb _ _ version-is in
    let check : eqb (number_at 24 bytes) (digest (take 24 bytes)) ≡ true = eq-eqb _ _ check-is in
    let same : eqb (number_at 16 bytes) width ≡ true = eq-eqb _ _ width-is in
    rw (enough, begins, version, check, same) (ap done (sym (take_rest bytes 32)))

-- for `check_header`
pub ruleset header_steps = header-reads
