-- A delta that is written is read again, and what is read is the delta that the bytes encode.
use Rattle.std.proofs.Common.{◌≡◌, ℕ, ◌+◌, ◌-◌, ◌*◌, ◌^◌, ◌<◌, ◌≤◌, Bool, true, false, cond, not, ltb, eqb, List, [], ◌++◌, length, take, drop, Result, Ok, Err, refl, sym, ap, subst, ◌∙◌, append_assoc, arith}
use Rattle.std.specs.Prelude.{nat_eq}
use Rattle.std.specs.Cmp.Lexicographic.{same_text}
use Rattle.std.specs.List.{AllByRecursion, flat_map, starts_with}
use Rattle.std.proofs.lemmas.Bool.{ltb-false, le-ltb, eq-eqb, eqb-true}
use Rattle.std.proofs.lemmas.List.{take_at, drop_at, take-take, take-append-drop, append-nil, nil_from_length, length-append, length-drop}
use Rattle.bitmap_core.specs.PrunedBits.{PrunedBits}
use Rattle.log_frames.specs.Digest.{digest}
use Rattle.log_frames.specs.Frames.{be64, number_at}
use Rattle.log_frames.proofs.DigestRange.{digest-lt}
use Rattle.log_frames.proofs.Frames.{four}
use Rattle.log_frames.proofs.Numbers as numbers
use Rattle.commit_log.specs.Delta.{Delta, FitsDelta, before_digest, decode_delta, delta_fields, encode_delta, magic, older_fields, replaced, with_fields}
use Rattle.commit_log.specs.Entries.{Change, FitsChunk, all_chunks, chunks_of, decode_change, decode_chunks, encode_change, encode_chunk}
use Rattle.commit_log.specs.declared.deltas.DeltaError.{DeltaError}
use Rattle.commit_log.specs.declared.deltas.DeltaError.TheVariants as errors
use Rattle.commit_log.specs.declared.entry.DecodeError.{DecodeError}
use Rattle.commit_log.specs.declared.entry.DecodeError.TheVariants.{Short}
use Rattle.commit_log.proofs.Entries.{IsBytes, IsBytes-drop, IsBytes-take, change-again, change-takes, chunks-again, read, read_is}

abbrev pub done : {A : Type 0} → A → Result A DeltaError
done x = Ok x

-- the delta with the fields of some bytes and a change
abbrev pub fields_of : List ℕ → Change → Delta
fields_of bytes c = record { number = number_at 24 bytes; len = number_at 32 bytes; pruned = number_at 40 bytes; replaced_digest = number_at 48 bytes; change = c }

-- bytes that pass the tests are read
pub delta-reads : (n : ℕ) (bytes : List ℕ) (c : Change) → 88 ≤ length bytes → starts_with nat_eq bytes magic ≡ true → number_at 8 bytes ≡ 1 → number_at (length bytes - 8) bytes ≡ digest (before_digest bytes)
    → number_at 16 bytes ≡ n → decode_change n (drop 56 (before_digest bytes)) ≡ read c → decode_delta n bytes ≡ done (fields_of bytes c)
unfolding decode_delta
delta-reads n bytes c long begins version-is digest-is width-is change-is =
    let enough : ltb (length bytes) 88 ≡ false = le-ltb _ _ long in
    let version : eqb (number_at 8 bytes) 1 ≡ true = eq-eqb _ _ version-is in
    let check : eqb (number_at (length bytes - 8) bytes) (digest (before_digest bytes)) ≡ true = eq-eqb _ _ digest-is in
    let same : eqb (number_at 16 bytes) n ≡ true = eq-eqb _ _ width-is in
    rw (enough, begins, version, check, same, change-is) refl

-- ---- written, and read again

same_delta : (d : Delta) (a b c e : ℕ) → a ≡ d.number → b ≡ d.len → c ≡ d.pruned → e ≡ d.replaced_digest
    → (record { number = a; len = b; pruned = c; replaced_digest = e; change = d.change }) ≡ d
same_delta d a b c e p q r s = λ i. record { number = p i; len = q i; pruned = r i; replaced_digest = s i; change = d.change }

-- the digest of some fields, after them
digest-after : (fields : List ℕ) → before_digest (fields ++ be64 (digest fields)) ≡ fields
digest-after fields = take_at fields (be64 (digest fields)) (length (fields ++ be64 (digest fields)) - 8) (omega (arith, length-append fields (be64 (digest fields))))

digest-again : (fields : List ℕ) → number_at (length (fields ++ be64 (digest fields)) - 8) (fields ++ be64 (digest fields)) ≡ digest fields
digest-again fields =
    let size : length fields ≡ length (fields ++ be64 (digest fields)) - 8 = omega (arith, length-append fields (be64 (digest fields))) in
    ap (λ (x : List ℕ). number_at (length (fields ++ be64 (digest fields)) - 8) (fields ++ x)) (sym (append-nil (be64 (digest fields))))
    ∙ numbers.number-again fields (digest fields) [] (length (fields ++ be64 (digest fields)) - 8) size (digest-lt fields)

-- the numbers of a delta's encoding, whatever follows the fields
module _ (n : ℕ) (d : Delta) (h : FitsDelta n d) (small : n < 2 ^ 64) (rest : List ℕ) where
  abbrev all : List ℕ
  all = older_fields n d.number d.len d.pruned ++ (be64 d.replaced_digest ++ rest)

  version-again : number_at 8 all ≡ 1
  unfolding older_fields
  version-again = numbers.number-again magic 1 (be64 n ++ (be64 d.number ++ (be64 d.len ++ (be64 d.pruned ++ (be64 d.replaced_digest ++ rest))))) 8 refl (omega arith)

  width-again : number_at 16 all ≡ n
  unfolding older_fields
  width-again = numbers.number-again (magic ++ be64 1) n (be64 d.number ++ (be64 d.len ++ (be64 d.pruned ++ (be64 d.replaced_digest ++ rest)))) 16 refl small

  number-again : number_at 24 all ≡ d.number
  unfolding older_fields
  number-again = numbers.number-again (magic ++ (be64 1 ++ be64 n)) d.number (be64 d.len ++ (be64 d.pruned ++ (be64 d.replaced_digest ++ rest))) 24 refl h.number

  len-again : number_at 32 all ≡ d.len
  unfolding older_fields
  len-again = numbers.number-again (magic ++ (be64 1 ++ (be64 n ++ be64 d.number))) d.len (be64 d.pruned ++ (be64 d.replaced_digest ++ rest)) 32 refl h.len

  pruned-again : number_at 40 all ≡ d.pruned
  unfolding older_fields
  pruned-again = numbers.number-again (magic ++ (be64 1 ++ (be64 n ++ (be64 d.number ++ be64 d.len)))) d.pruned (be64 d.replaced_digest ++ rest) 40 refl h.pruned

  replaced-again : number_at 48 all ≡ d.replaced_digest
  unfolding older_fields
  replaced-again = numbers.number-again (older_fields n d.number d.len d.pruned) d.replaced_digest rest 48 refl h.replaced_digest

  change-there : drop 56 all ≡ rest
  unfolding older_fields
  change-there = drop_at (older_fields n d.number d.len d.pruned ++ be64 d.replaced_digest) rest 56 refl

length-change : (c : Change) → 24 ≤ length (encode_change c)
unfolding encode_change
length-change c = omega arith

length-fields : (n : ℕ) (d : Delta) → 80 ≤ length (delta_fields n d)
unfolding delta_fields older_fields
length-fields n d = omega (arith, length-change d.change)

begins_again : (n : ℕ) (d : Delta) → starts_with nat_eq (encode_delta n d) magic ≡ true
unfolding encode_delta delta_fields older_fields
begins_again n d = refl

pub delta-again : (n : ℕ) (d : Delta) → FitsDelta n d → n < 2 ^ 64 → decode_delta n (encode_delta n d) ≡ done d
unfolding encode_delta delta_fields older_fields
delta-again n d h small =
    let fields : List ℕ = delta_fields n d in
    let rest : List ℕ = encode_change d.change ++ be64 (digest fields) in
    let long : 88 ≤ length (encode_delta n d) = omega (arith, length-fields n d, length-append fields (be64 (digest fields))) in
    let there : drop 56 (before_digest (encode_delta n d)) ≡ encode_change d.change = ap (drop 56) (digest-after fields) ∙ change-there n d h small (encode_change d.change) in
    delta-reads n (encode_delta n d) d.change long (begins_again n d) (version-again n d h small rest) (digest-again fields ∙ ap digest (sym (digest-after fields))) (width-again n d h small rest)
    (ap (decode_change n) there ∙ change-again n d.change h.change)
    ∙ ap done (same_delta d (number_at 24 (encode_delta n d)) (number_at 32 (encode_delta n d)) (number_at 40 (encode_delta n d)) (number_at 48 (encode_delta n d))
    (number-again n d h small rest) (len-again n d h small rest) (pruned-again n d h small rest) (replaced-again n d h small rest))

-- the encoding of a delta is long enough for its fields
pub length-delta : (n : ℕ) (d : Delta) → 88 ≤ length (encode_delta n d)
unfolding encode_delta
length-delta n d = omega (arith, length-fields n d, length-append (delta_fields n d) (be64 (digest (delta_fields n d))))

-- the bytes of the change of a delta, in its encoding
pub change-in : (n : ℕ) (d : Delta) → drop 56 (before_digest (encode_delta n d)) ≡ encode_change d.change
unfolding encode_delta delta_fields older_fields
change-in n d =
    ap (drop 56) (digest-after (delta_fields n d))
    ∙ drop_at (older_fields n d.number d.len d.pruned ++ be64 d.replaced_digest) (encode_change d.change) 56 refl

-- ---- read, and written again

-- a test that did not end the read
guard_ok : {A : Type 0} (b : Bool) (e : DeltaError) (r : Result A DeltaError) (y : A) → cond b (Err e) r ≡ done y → (b ≡ false) × (r ≡ done y)
guard_ok true e r y h = absurd cc
guard_ok false e r y h = (refl, h)

is_true : (b : Bool) → not b ≡ false → true ≡ b
is_true true e = refl
is_true false e = absurd cc

-- the change that was read
pub record HasChange (bytes : List ℕ) (r : Result Change DecodeError) (d : Delta) : Type 0 where
  pub change : Change
  pub found : r ≡ read change
  pub fields : fields_of bytes change ≡ d

has_change : (bytes : List ℕ) (r : Result Change DecodeError) (d : Delta) → with_fields bytes r ≡ done d → HasChange bytes r d
has_change bytes (Ok c) d e = record { change = c; found = refl; fields = cc }
has_change bytes (Err f) d e = absurd cc

-- the fields that passed the tests are those of a delta
begins_with : (n : ℕ) (bytes : List ℕ) → IsBytes bytes → 88 ≤ length bytes → magic ≡ take 8 bytes → number_at 8 bytes ≡ 1 → number_at 16 bytes ≡ n
    → bytes ≡ (older_fields n (number_at 24 bytes) (number_at 32 bytes) (number_at 40 bytes) ++ be64 (number_at 48 bytes)) ++ drop 56 bytes
unfolding older_fields
begins_with n bytes fits long magic-is version-is width-is =
    sym (take-append-drop 8 bytes)
    ∙ ap (λ (x : List ℕ). x ++ drop 8 bytes) (sym magic-is)
    ∙ ap (λ (x : List ℕ). magic ++ x) (numbers.number-takes 8 bytes fits (omega arith) ∙ ap (λ (k : ℕ). be64 k ++ drop 16 bytes) version-is)
    ∙ ap (λ (x : List ℕ). magic ++ (be64 1 ++ x)) (numbers.number-takes 16 bytes fits (omega arith) ∙ ap (λ (k : ℕ). be64 k ++ drop 24 bytes) width-is)
    ∙ ap (λ (x : List ℕ). magic ++ (be64 1 ++ (be64 n ++ x))) (numbers.number-takes 24 bytes fits (omega arith))
    ∙ ap (λ (x : List ℕ). magic ++ (be64 1 ++ (be64 n ++ (be64 (number_at 24 bytes) ++ x)))) (numbers.number-takes 32 bytes fits (omega arith))
    ∙ ap (λ (x : List ℕ). magic ++ (be64 1 ++ (be64 n ++ (be64 (number_at 24 bytes) ++ (be64 (number_at 32 bytes) ++ x))))) (numbers.number-takes 40 bytes fits (omega arith))
    ∙ ap (λ (x : List ℕ). older_fields n (number_at 24 bytes) (number_at 32 bytes) (number_at 40 bytes) ++ x) (numbers.number-takes 48 bytes fits (omega arith))

-- the bytes before the last digest, from the fields that they begin with
body_is : (n : ℕ) (bytes front : List ℕ) (c : Change) → 88 ≤ length bytes → length front ≡ 56 → bytes ≡ front ++ drop 56 bytes → drop 56 (before_digest bytes) ≡ encode_change c → before_digest bytes ≡ front ++ encode_change c
body_is n bytes front c long size begins rest =
    let first : take 56 (before_digest bytes) ≡ front = take-take 56 (length bytes - 8) bytes (omega (arith, long)) ∙ ap (take 56) begins ∙ take_at front (drop 56 bytes) 56 size in
    sym (take-append-drop 56 (before_digest bytes)) ∙ (λ i. first i ++ rest i)

-- bytes end with the number in their last eight bytes
ends_with : (bytes : List ℕ) → IsBytes bytes → 8 ≤ length bytes → bytes ≡ before_digest bytes ++ be64 (number_at (length bytes - 8) bytes)
ends_with bytes fits long =
    let last : ℕ = length bytes - 8 in
    let none : drop (last + 8) bytes ≡ [] = nil_from_length (drop (last + 8) bytes) (omega (arith, length-drop (last + 8) bytes)) in
    sym (take-append-drop last bytes)
    ∙ ap (λ (x : List ℕ). before_digest bytes ++ x) (numbers.number-takes last bytes fits (omega (arith, long)) ∙ ap (λ (x : List ℕ). be64 (number_at last bytes) ++ x) none ∙ append-nil (be64 (number_at last bytes)))

-- the fields and the digest of what was read are the bytes
written : (n : ℕ) (bytes : List ℕ) (c : Change) → IsBytes bytes → 88 ≤ length bytes → magic ≡ take 8 bytes → number_at 8 bytes ≡ 1 → number_at 16 bytes ≡ n
    → number_at (length bytes - 8) bytes ≡ digest (before_digest bytes) → drop 56 (before_digest bytes) ≡ encode_change c → bytes ≡ encode_delta n (fields_of bytes c)
unfolding encode_delta delta_fields older_fields
written n bytes c fits long magic-is version-is width-is digest-is rest =
    let front : List ℕ = older_fields n (number_at 24 bytes) (number_at 32 bytes) (number_at 40 bytes) ++ be64 (number_at 48 bytes) in
    let body : before_digest bytes ≡ delta_fields n (fields_of bytes c) = body_is n bytes front c long refl (begins_with n bytes fits long magic-is version-is width-is) rest in
    ends_with bytes fits (omega (arith, long)) ∙ ap (λ (k : ℕ). before_digest bytes ++ be64 k) digest-is ∙ ap (λ (x : List ℕ). x ++ be64 (digest x)) body

pub record Takes (n : ℕ) (bytes : List ℕ) (d : Delta) : Type 0 where
  pub encoded : bytes ≡ encode_delta n d
  pub fits : FitsDelta n d

pub delta-takes : (n : ℕ) (bytes : List ℕ) (d : Delta) → IsBytes bytes → decode_delta n bytes ≡ done d → Takes n bytes d
unfolding decode_delta
delta-takes n bytes d fits e =
    let version : ℕ = number_at 8 bytes in
    let width : ℕ = number_at 16 bytes in
    let check : ℕ = number_at (length bytes - 8) bytes in
    let last : Result Delta DeltaError = with_fields bytes (decode_change n (drop 56 (before_digest bytes))) in
    let r3 : Result Delta DeltaError = cond (not (eqb width n)) (Err (errors.Width width)) last in
    let r2 : Result Delta DeltaError = cond (not (eqb check (digest (before_digest bytes)))) (Err errors.BadDigest) r3 in
    let r1 : Result Delta DeltaError = cond (not (eqb version 1)) (Err (errors.Version version)) r2 in
    let a = guard_ok (ltb (length bytes) 88) errors.Short (cond (not (starts_with nat_eq bytes magic)) (Err errors.NotADelta) r1) d e in
    let b = guard_ok (not (starts_with nat_eq bytes magic)) errors.NotADelta r1 d a.1 in
    let v = guard_ok (not (eqb version 1)) (errors.Version version) r2 d b.1 in
    let k = guard_ok (not (eqb check (digest (before_digest bytes)))) errors.BadDigest r3 d v.1 in
    let w = guard_ok (not (eqb width n)) (errors.Width width) last d k.1 in
    let long : 88 ≤ length bytes = ltb-false _ _ a.0 in
    let magic-is : magic ≡ take 8 bytes = same_text magic (take 8 bytes) (is_true (starts_with nat_eq bytes magic) b.0) in
    let version-is : version ≡ 1 = eqb-true _ _ (sym (is_true (eqb version 1) v.0)) in
    let digest-is : check ≡ digest (before_digest bytes) = eqb-true _ _ (sym (is_true (eqb check (digest (before_digest bytes))) k.0)) in
    let width-is : width ≡ n = eqb-true _ _ (sym (is_true (eqb width n) w.0)) in
    let has = has_change bytes (decode_change n (drop 56 (before_digest bytes))) d w.1 in
    let change = change-takes n (drop 56 (before_digest bytes)) has.change (IsBytes-drop 56 (before_digest bytes) (IsBytes-take (length bytes - 8) bytes fits)) has.found in
    subst (Takes n bytes) has.fields (record {
      encoded = written n bytes has.change fits long magic-is version-is width-is digest-is (change.0);
      fits = record {
        number = numbers.number-lt 24 bytes fits;
        len = numbers.number-lt 32 bytes fits;
        pruned = numbers.number-lt 40 bytes fits;
        replaced_digest = numbers.number-lt 48 bytes fits;
        change = change.1;
      };
    })

-- ---- the errors of bytes

-- an error of bytes alone
abbrev pub IsBytesError : DeltaError → Type 0
IsBytesError errors.NotAtBase = ⊥
IsBytesError (errors.Change e) = ⊥
IsBytesError (errors.Memory e) = ⊥
IsBytesError error = Unit {0}

abbrev failed : {A : Type 0} → DeltaError → Result A DeltaError
failed e = Err e

err_is : {A : Type 0} (e f : DeltaError) → failed {A = A} e ≡ failed f → e ≡ f
err_is e f h = cc

guard_err : {A : Type 0} (b : Bool) (f : DeltaError) (r : Result A DeltaError) (e : DeltaError) → cond b (Err f) r ≡ Err e → IsBytesError f → (r ≡ Err e → IsBytesError e) → IsBytesError e
guard_err {A} true f r e h k next = subst IsBytesError (err_is {A = A} f e h) k
guard_err false f r e h k next = next h

change_err : (bytes : List ℕ) (r : Result Change DecodeError) (e : DeltaError) → with_fields bytes r ≡ Err e → IsBytesError e
change_err bytes (Ok c) e h = absurd cc
change_err bytes (Err f) e h = subst IsBytesError (err_is {A = Delta} errors.Short e h) tt

pub bytes_err : (n : ℕ) (bytes : List ℕ) (e : DeltaError) → decode_delta n bytes ≡ Err e → IsBytesError e
unfolding decode_delta
bytes_err n bytes e h =
    let last : Result Delta DeltaError = with_fields bytes (decode_change n (drop 56 (before_digest bytes))) in
    let r3 : Result Delta DeltaError = cond (not (eqb (number_at 16 bytes) n)) (Err (errors.Width (number_at 16 bytes))) last in
    let r2 : Result Delta DeltaError = cond (not (eqb (number_at (length bytes - 8) bytes) (digest (before_digest bytes)))) (Err errors.BadDigest) r3 in
    let r1 : Result Delta DeltaError = cond (not (eqb (number_at 8 bytes) 1)) (Err (errors.Version (number_at 8 bytes))) r2 in
    guard_err (ltb (length bytes) 88) errors.Short (cond (not (starts_with nat_eq bytes magic)) (Err errors.NotADelta) r1) e h tt (λ h1.
    guard_err (not (starts_with nat_eq bytes magic)) errors.NotADelta r1 e h1 tt (λ h2.
    guard_err (not (eqb (number_at 8 bytes) 1)) (errors.Version (number_at 8 bytes)) r2 e h2 tt (λ h3.
    guard_err (not (eqb (number_at (length bytes - 8) bytes) (digest (before_digest bytes)))) errors.BadDigest r3 e h3 tt (λ h4.
    guard_err (not (eqb (number_at 16 bytes) n)) (errors.Width (number_at 16 bytes)) last e h4 tt (change_err bytes (decode_change n (drop 56 (before_digest bytes))) e)))))

-- for `read_delta`
pub ruleset delta_steps = delta-reads

-- two deltas with one encoding are one delta
pub one_delta : (n : ℕ) (a b : Delta) → n < 2 ^ 64 → FitsDelta n a → FitsDelta n b → encode_delta n a ≡ encode_delta n b → a ≡ b
one_delta n a b small f g e = done_is a b (sym (delta-again n a f small) ∙ ap (decode_delta n) e ∙ delta-again n b g small)
  where
    done_is : (x y : Delta) → done x ≡ done y → x ≡ y
    done_is x y h = cc

-- ---- written part by part

-- six parts that were appended one by one
pub six : (start x1 x2 x3 x4 x5 x6 a b c d e f : List ℕ) → x1 ≡ start ++ a → x2 ≡ x1 ++ b → x3 ≡ x2 ++ c → x4 ≡ x3 ++ d → x5 ≡ x4 ++ e → x6 ≡ x5 ++ f → x6 ≡ start ++ (a ++ (b ++ (c ++ (d ++ (e ++ f)))))
six start x1 x2 x3 x4 x5 x6 a b c d e f e1 e2 e3 e4 e5 e6 =
    e6
    ∙ ap (λ (x : List ℕ). x ++ f) (e5 ∙ ap (λ (x : List ℕ). x ++ e) (four start start x1 x2 x3 x4 a b c d refl e1 e2 e3 e4))
    ∙ simp append_assoc

-- the chunks that are encoded are read again
all-again : (n : ℕ) (chunks : List (ℕ × List ℕ)) → AllByRecursion (FitsChunk n) chunks → all_chunks n (flat_map encode_chunk chunks) ≡ chunks
unfolding decode_chunks
all-again n chunks h = of_read (eqb ((8 + n) * chunks_of n (flat_map encode_chunk chunks)) (length (flat_map encode_chunk chunks))) (all_chunks n (flat_map encode_chunk chunks)) chunks (chunks-again n chunks h)
  where
    of_read : (b : Bool) (x y : List (ℕ × List ℕ)) → cond b (read x) (Err Short) ≡ read y → x ≡ y
    of_read true x y e = read_is x y e
    of_read false x y e = absurd cc

-- a delta that is written with eight bytes in the place of the digest of the replaced bytes
module _ (n number len pruned : ℕ) (gap : List ℕ) (c : Change) (out : List ℕ) (size : length gap ≡ 8) (is : out ≡ (older_fields n number len pruned ++ gap) ++ encode_change c) where
  length-older : length (older_fields n number len pruned) ≡ 48
  unfolding older_fields
  length-older = refl

  pub length-out : 80 ≤ length out
  length-out = omega (
    arith,
    ap length is,
    length-append (older_fields n number len pruned ++ gap) (encode_change c),
    length-append (older_fields n number len pruned) gap,
    size,
    length-older,
    length-change c,
  )

  pub chunks_there : drop 80 out ≡ flat_map encode_chunk c.chunks
  unfolding encode_change
  chunks_there =
      let front : List ℕ = be64 c.number ++ (be64 c.len ++ be64 c.pruned) in
      let parts : out ≡ ((older_fields n number len pruned ++ gap) ++ front) ++ flat_map encode_chunk c.chunks = is ∙ sym (append_assoc (older_fields n number len pruned ++ gap) front (flat_map encode_chunk c.chunks)) in
      let long : length ((older_fields n number len pruned ++ gap) ++ front) ≡ 80 =
      omega (arith, length-append (older_fields n number len pruned ++ gap) front, length-append (older_fields n number len pruned) gap, size, length-older) in
      ap (drop 80) parts ∙ drop_at ((older_fields n number len pruned ++ gap) ++ front) (flat_map encode_chunk c.chunks) 80 long

  pub replaced_is : (old : PrunedBits) (value : ℕ) (rest : List ℕ) → AllByRecursion (FitsChunk n) c.chunks → rest ≡ drop 80 out → value ≡ digest (replaced n old (all_chunks n rest)) → value ≡ digest (replaced n old c.chunks)
  replaced_is old value rest fits r v =
      v ∙ ap (λ (x : List (ℕ × List ℕ)). digest (replaced n old x)) (ap (all_chunks n) (r ∙ chunks_there) ∙ all-again n c.chunks fits)

  pub finished : (value sum : ℕ) (out' out'' : List ℕ) → out' ≡ take 48 out ++ (be64 value ++ drop 56 out) → sum ≡ digest out' → out'' ≡ out' ++ be64 sum
      → out'' ≡ encode_delta n (record { number = number; len = len; pruned = pruned; replaced_digest = value; change = c })
  unfolding encode_delta delta_fields
  finished value sum out' out'' e s f =
      let before : take 48 out ≡ older_fields n number len pruned =
      ap (take 48) (is ∙ append_assoc (older_fields n number len pruned) gap (encode_change c)) ∙ take_at (older_fields n number len pruned) (gap ++ encode_change c) 48 length-older in
      let after : drop 56 out ≡ encode_change c =
      ap (drop 56) is ∙ drop_at (older_fields n number len pruned ++ gap) (encode_change c) 56 (omega (arith, length-append (older_fields n number len pruned) gap, size, length-older)) in
      let fields : out' ≡ older_fields n number len pruned ++ (be64 value ++ encode_change c) = e ∙ (λ i. before i ++ (be64 value ++ after i)) in
      f ∙ ap (λ (k : ℕ). out' ++ be64 k) s ∙ ap (λ (x : List ℕ). x ++ be64 (digest x)) fields

-- what is written before the digest of the replaced bytes is known
pub begun : (n number len pruned : ℕ) (gap : List ℕ) (c : Change) (x0 x1 x2 x3 : List ℕ) → x0 ≡ [] → x1 ≡ x0 ++ older_fields n number len pruned → x2 ≡ x1 ++ gap → x3 ≡ x2 ++ encode_change c → x3 ≡ (older_fields n number len pruned ++ gap) ++ encode_change c
begun n number len pruned gap c x0 x1 x2 x3 e0 e1 e2 e3 =
    e3 ∙ ap (λ (x : List ℕ). x ++ encode_change c) (e2 ∙ ap (λ (x : List ℕ). x ++ gap) (e1 ∙ ap (λ (x : List ℕ). x ++ older_fields n number len pruned) e0))
