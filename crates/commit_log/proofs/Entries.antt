-- An entry that is written is read again, and what is read is the entry that the bytes encode.
use Rattle.std.proofs.Common.{◌≡◌, ℕ, zero, suc, ◌+◌, ◌*◌, ◌/◌, ◌^◌, ◌<◌, ◌≤◌, Bool, true, false, cond, ltb, eqb, List, [], ◌∷◌, ◌++◌, length, get_or, take, drop, Result, Ok, Err, refl, sym, ap, subst, ◌∙◌, append_assoc, arith, IfOk, inl, inr}
use Rattle.std.specs.Int.{w64, to_be_bytes, from_be_bytes}
use Rattle.std.specs.List.{flat_map, AllByRecursion}
use Rattle.std.proofs.Math.Nat.{mul-div_cancel_left}
use Rattle.std.proofs.lemmas.Bool.{cases_lt, ltb-false, le-ltb, eqb-true}
use Rattle.std.proofs.lemmas.List.{take_at, drop_at, take-append-drop, drop-drop, append-nil, length-append, length-take, length-drop, nil_from_length, get_or-drop, get_or-take, get_or_past}
use Rattle.std.proofs.lemmas.List.Concat.{flat_map-cons}
use Rattle.std.proofs.lemmas.Nat.{be_bytes_8, from_be_bytes-to_be_bytes_8}
use Rattle.bitmap_core.specs.Decoding.{number as number_in}
use Rattle.commit_log.specs.declared.entry.DecodeError.{DecodeError}
use Rattle.commit_log.specs.declared.entry.DecodeError.TheVariants.{Short, Long}
use Rattle.commit_log.specs.declared.entry.Entry.{Entry as BorrowedEntry}
use Rattle.commit_log.specs.Entries.{Change, Entry, FitsChunk, FitsChange, FitsEntry, Gives, encode_chunk, encode_change, encode_entry, ◌>>=◌, decode_number, chunks_in, chunks_of, decode_chunks, decode_change, decode_last_number, decode_clear, decode_entry, view_entry}
use Rattle.commit_log.specs.Entries.Entry.{Commit, Rewind, DropBefore, Clear}

-- each item is a byte
abbrev pub IsBytes : List ℕ → Type 0
IsBytes input = (i : ℕ) → get_or input i 0 < 256

pub IsBytes-drop : (n : ℕ) (input : List ℕ) → IsBytes input → IsBytes (drop n input)
IsBytes-drop n input h i = rw get_or-drop (h (n + i))

pub IsBytes-take : (n : ℕ) (input : List ℕ) → IsBytes input → IsBytes (take n input)
IsBytes-take n input h i =
    elim (cases_lt i n) [
      | inl lt ↦ rw (get_or-take n input i 0 lt) (h i)
      | inr le ↦ rw (get_or_past (take n input) i 0 (omega (arith, length-take n input))) (omega arith)
    ]

-- a number before some bytes is read again
pub size-again : (n : ℕ) (rest : List ℕ) → n < 2 ^ 64 → number_in (to_be_bytes w64 n ++ rest) ≡ n
size-again n rest h = ap (from_be_bytes w64) (take_at (to_be_bytes w64 n) rest 8 refl) ∙ from_be_bytes-to_be_bytes_8 n h

pub size-lt : (input : List ℕ) → IsBytes input → number_in input < 2 ^ 64
size-lt input fits = let f = IsBytes-take 8 input fits in omega (arith, f 0, f 1, f 2, f 3, f 4, f 5, f 6, f 7)

abbrev pub read : {A : Type 0} → A → Result A DecodeError
read x = Ok x

pub read_is : {A : Type 0} (x y : A) → read x ≡ read y → x ≡ y
read_is x y e = cc

pub not_both : {A : Type 0} (x : A) (d : DecodeError) → read x ≡ Err d → ⊥
not_both x d e = absurd cc

pub bind_ok : {A B : Type 0} (r : Result A DecodeError) (f : A → Result B DecodeError) (y : B) → (r >>= f) ≡ Ok y → (x : A) × (r ≡ Ok x) × (f x ≡ Ok y)
bind_ok (Ok x) f y e = (x, refl, e)
bind_ok (Err d) f y e = absurd cc

guard_ok : {A : Type 0} (b : Bool) (d : DecodeError) (x y : A) → cond b (Err d) (Ok x) ≡ read y → (b ≡ false) × (x ≡ y)
guard_ok true d x y e = absurd cc
guard_ok false d x y e = (refl, read_is x y e)

guard_yes : {A : Type 0} (b : Bool) (d : DecodeError) (x y : A) → cond b (Ok x) (Err d) ≡ read y → (b ≡ true) × (x ≡ y)
guard_yes true d x y e = (refl, read_is x y e)
guard_yes false d x y e = absurd cc

eqb-same : (a b : ℕ) → a ≡ b → eqb a b ≡ true
eqb-same a b e = search (arith, e)

-- ---- numbers

pub number-again : (n : ℕ) (rest : List ℕ) → n < 2 ^ 64 → decode_number (to_be_bytes w64 n ++ rest) ≡ read (n, rest)
number-again n rest h =
    let long : ltb (length (to_be_bytes w64 n ++ rest)) 8 ≡ false = le-ltb _ _ (omega (arith, length-append (to_be_bytes w64 n) rest)) in
    rw (long, size-again n rest h, drop_at (to_be_bytes w64 n) rest 8 refl) refl

-- a number that was read is encoded as it was
pub size-back : (input : List ℕ) → IsBytes input → 8 ≤ length input → to_be_bytes w64 (number_in input) ≡ take 8 input
size-back input fits long = be_bytes_8 (take 8 input) (number_in input) (omega (arith, length-take 8 input)) (IsBytes-take 8 input fits) refl

pub record TakesNumber (input : List ℕ) (n : ℕ) (rest : List ℕ) : Type 0 where
  pub parts : input ≡ to_be_bytes w64 n ++ rest
  pub small : n < 2 ^ 64
  pub rest_fits : IsBytes rest

pub number-takes : (input : List ℕ) (x : ℕ × List ℕ) → IsBytes input → decode_number input ≡ Ok x → TakesNumber input x.0 x.1
number-takes input x fits e =
    let g = guard_ok (ltb (length input) 8) Short (number_in input, drop 8 input) x e in
    let long : 8 ≤ length input = ltb-false _ _ g.0 in
    subst (λ (y : ℕ × List ℕ). TakesNumber input y.0 y.1) g.1
    (record { parts = sym (ap (λ (f : List ℕ). f ++ drop 8 input) (size-back input fits long) ∙ take-append-drop 8 input); small = size-lt input fits; rest_fits = IsBytes-drop 8 input fits })

-- ---- chunks

length-encode_chunk : (n : ℕ) (e : ℕ × List ℕ) → FitsChunk n e → length (encode_chunk e) ≡ 8 + n
unfolding encode_chunk
length-encode_chunk n e h = omega (arith, length-append (to_be_bytes w64 e.0) e.1, h.bytes)

pub length-chunks : (n : ℕ) (chunks : List (ℕ × List ℕ)) → AllByRecursion (FitsChunk n) chunks → length (flat_map encode_chunk chunks) ≡ (8 + n) * length chunks
length-chunks n [] h = grind arith
length-chunks n (e ∷ es) h =
    let l = length-chunks n es h.1 in
    let m : (8 + n) * suc (length es) ≡ (8 + n) + (8 + n) * length es = grind arith in
    ap length (flat_map-cons encode_chunk e es) ∙ omega (arith, l, m, length-append (encode_chunk e) (flat_map encode_chunk es), length-encode_chunk n e h.0)

chunks_in-again : (n : ℕ) (chunks : List (ℕ × List ℕ)) → AllByRecursion (FitsChunk n) chunks → chunks_in n (length chunks) (flat_map encode_chunk chunks) ≡ chunks
unfolding encode_chunk
chunks_in-again n [] h = refl
chunks_in-again n (e ∷ es) h =
    let rest : List ℕ = flat_map encode_chunk es in
    let whole : flat_map encode_chunk (e ∷ es) ≡ to_be_bytes w64 e.0 ++ (e.1 ++ rest) = flat_map-cons encode_chunk e es ∙ append_assoc (to_be_bytes w64 e.0) e.1 rest in
    let index : number_in (flat_map encode_chunk (e ∷ es)) ≡ e.0 = ap number_in whole ∙ size-again e.0 (e.1 ++ rest) h.0.index in
    let past : drop 8 (flat_map encode_chunk (e ∷ es)) ≡ e.1 ++ rest = ap (drop 8) whole ∙ drop_at (to_be_bytes w64 e.0) (e.1 ++ rest) 8 refl in
    let bytes : take n (drop 8 (flat_map encode_chunk (e ∷ es))) ≡ e.1 = ap (take n) past ∙ take_at e.1 rest n h.0.bytes in
    let after : drop (8 + n) (flat_map encode_chunk (e ∷ es)) ≡ rest = sym (drop-drop n 8 (flat_map encode_chunk (e ∷ es))) ∙ ap (drop n) past ∙ drop_at e.1 rest n h.0.bytes in
    rw (after, chunks_in-again n es h.1) (ap (λ (p : ℕ × List ℕ). p ∷ es) (λ i. (index i, bytes i)))

pub chunks-again : (n : ℕ) (chunks : List (ℕ × List ℕ)) → AllByRecursion (FitsChunk n) chunks → decode_chunks n (flat_map encode_chunk chunks) ≡ read chunks
unfolding decode_chunks
chunks-again n chunks h =
    let len = length-chunks n chunks h in
    let count : chunks_of n (flat_map encode_chunk chunks) ≡ length chunks = ap (λ (x : ℕ). x / (8 + n)) len ∙ mul-div_cancel_left (length chunks) (omega arith) in
    rw (count, eqb-same _ _ (sym len), chunks_in-again n chunks h) refl

-- chunks that were read are encoded as they were
chunks_in-takes : (n k : ℕ) (input : List ℕ) → IsBytes input → length input ≡ (8 + n) * k → (flat_map encode_chunk (chunks_in n k input) ≡ input) × AllByRecursion (FitsChunk n) (chunks_in n k input)
unfolding encode_chunk
chunks_in-takes n zero input fits len = (sym (nil_from_length input (len ∙ grind arith)), tt)
chunks_in-takes n (suc k) input fits len =
    let m : (8 + n) * suc k ≡ (8 + n) + (8 + n) * k = grind arith in
    let long : 8 + n ≤ length input = omega (arith, len, m) in
    let after : List ℕ = drop (8 + n) input in
    let next = chunks_in-takes n k after (IsBytes-drop (8 + n) input fits) (omega (arith, len, m, length-drop (8 + n) input)) in
    let index : ℕ = number_in input in
    let bytes : List ℕ = take n (drop 8 input) in
    let width : length bytes ≡ n = omega (arith, long, length-take n (drop 8 input), length-drop 8 input) in
    let front : to_be_bytes w64 index ≡ take 8 input = size-back input fits (omega (arith, long)) in
    let tail : bytes ++ after ≡ drop 8 input = ap (λ (x : List ℕ). bytes ++ x) (sym (drop-drop n 8 input)) ∙ take-append-drop n (drop 8 input) in
    let whole : (to_be_bytes w64 index ++ bytes) ++ after ≡ input = append_assoc (to_be_bytes w64 index) bytes after ∙ ap (λ (x : List ℕ). to_be_bytes w64 index ++ x) tail ∙ ap (λ (x : List ℕ). x ++ drop 8 input) front ∙ take-append-drop 8 input in
    (flat_map-cons encode_chunk (index, bytes) (chunks_in n k after) ∙ ap (λ (x : List ℕ). (to_be_bytes w64 index ++ bytes) ++ x) next.0 ∙ whole, (record { index = size-lt input fits; bytes = width }, next.1))

-- ---- changes

pub change-again : (n : ℕ) (c : Change) → FitsChange n c → decode_change n (encode_change c) ≡ read c
unfolding decode_change encode_change
change-again n c h =
    let chunks : List ℕ = flat_map encode_chunk c.chunks in
    rw (number-again c.number (to_be_bytes w64 c.len ++ (to_be_bytes w64 c.pruned ++ chunks)) h.number, number-again c.len (to_be_bytes w64 c.pruned ++ chunks) h.len, number-again c.pruned chunks h.pruned, chunks-again n c.chunks h.chunks) refl

pub change-takes : (n : ℕ) (input : List ℕ) (c : Change) → IsBytes input → decode_change n input ≡ read c → (input ≡ encode_change c) × FitsChange n c
unfolding decode_change encode_change decode_chunks
change-takes n input c fits e =
    let a = bind_ok (decode_number input) (λ number. decode_number number.1 >>= λ len. decode_number len.1 >>= λ pruned. decode_chunks n pruned.1 >>= λ chunks. Ok (record { number = number.0; len = len.0; pruned = pruned.0; chunks = chunks })) c e in
    let b = bind_ok (decode_number a.0.1) (λ len. decode_number len.1 >>= λ pruned. decode_chunks n pruned.1 >>= λ chunks. Ok (record { number = a.0.0; len = len.0; pruned = pruned.0; chunks = chunks })) c a.2 in
    let d = bind_ok (decode_number b.0.1) (λ pruned. decode_chunks n pruned.1 >>= λ chunks. Ok (record { number = a.0.0; len = b.0.0; pruned = pruned.0; chunks = chunks })) c b.2 in
    let f = bind_ok (decode_chunks n d.0.1) (λ chunks. Ok (record { number = a.0.0; len = b.0.0; pruned = d.0.0; chunks = chunks })) c d.2 in
    let t0 = number-takes input a.0 fits a.1 in
    let t1 = number-takes a.0.1 b.0 t0.rest_fits b.1 in
    let t2 = number-takes b.0.1 d.0 t1.rest_fits d.1 in
    let g = guard_yes (eqb ((8 + n) * chunks_of n d.0.1) (length d.0.1)) Short (chunks_in n (chunks_of n d.0.1) d.0.1) f.0 f.1 in
    let t3 = subst (λ (y : List (ℕ × List ℕ)). (flat_map encode_chunk y ≡ d.0.1) × AllByRecursion (FitsChunk n) y) g.1 (chunks_in-takes n (chunks_of n d.0.1) d.0.1 t2.rest_fits (sym (eqb-true _ _ g.0))) in
    let made : Change = record { number = a.0.0; len = b.0.0; pruned = d.0.0; chunks = f.0 } in
    let whole : input ≡ to_be_bytes w64 a.0.0 ++ (to_be_bytes w64 b.0.0 ++ (to_be_bytes w64 d.0.0 ++ flat_map encode_chunk f.0)) =
    t0.parts ∙ ap (λ (x : List ℕ). to_be_bytes w64 a.0.0 ++ x) (t1.parts ∙ ap (λ (x : List ℕ). to_be_bytes w64 b.0.0 ++ x) (t2.parts ∙ ap (λ (x : List ℕ). to_be_bytes w64 d.0.0 ++ x) (sym t3.0))) in
    subst (λ (y : Change). (input ≡ to_be_bytes w64 y.number ++ (to_be_bytes w64 y.len ++ (to_be_bytes w64 y.pruned ++ flat_map encode_chunk y.chunks))) × FitsChange n y) (read_is made c f.2) (whole, record { number = t0.small; len = t1.small; pruned = t2.small; chunks = t3.1 })

-- ---- entries

last-from : (input : List ℕ) (number : ℕ) → decode_number input ≡ read (number, []) → decode_last_number input ≡ read number
unfolding decode_last_number
last-from input number e = rw e refl

last-again : (number : ℕ) → number < 2 ^ 64 → decode_last_number (to_be_bytes w64 number) ≡ read number
last-again number h = last-from (to_be_bytes w64 number) number (ap decode_number (sym (append-nil (to_be_bytes w64 number))) ∙ number-again number [] h)

last-takes : (input : List ℕ) (number : ℕ) → IsBytes input → decode_last_number input ≡ read number → (input ≡ to_be_bytes w64 number) × (number < 2 ^ 64)
unfolding decode_last_number
last-takes input number fits e =
    let a = bind_ok (decode_number input) (λ x. cond (eqb (length x.1) 0) (Ok x.0) (Err Long)) number e in
    let t = number-takes input a.0 fits a.1 in
    let g = guard_yes (eqb (length a.0.1) 0) Long a.0.0 number a.2 in
    let none : a.0.1 ≡ [] = nil_from_length a.0.1 (eqb-true _ _ g.0) in
    (t.parts ∙ ap (λ (x : List ℕ). to_be_bytes w64 a.0.0 ++ x) none ∙ append-nil (to_be_bytes w64 a.0.0) ∙ ap (to_be_bytes w64) g.1, subst (λ (k : ℕ). k < 2 ^ 64) g.1 t.small)

pub entry-again : (n : ℕ) (e : Entry) → FitsEntry n e → decode_entry n (encode_entry e) ≡ read e
unfolding decode_entry encode_entry
entry-again n (Commit c) h = rw (change-again n c h) refl
entry-again n (Rewind number) h = rw (last-again number h) refl
entry-again n (DropBefore number) h = rw (last-again number h) refl
entry-again n Clear h = refl

IsBytes-rest : (b : ℕ) (input : List ℕ) → IsBytes (b ∷ input) → IsBytes input
IsBytes-rest b input h i = h (suc i)

clear-takes : (n : ℕ) (rest : List ℕ) (e : Entry) → decode_clear rest ≡ read e → (5 ∷ rest ≡ encode_entry e) × FitsEntry n e
unfolding encode_entry
clear-takes n [] e given = subst (λ (y : Entry). (5 ∷ [] ≡ encode_entry y) × FitsEntry n y) (read_is Clear e given) (refl, tt)
clear-takes n (byte ∷ bytes) e given = absurd cc

pub entry-takes : (n : ℕ) (input : List ℕ) (e : Entry) → IsBytes input → decode_entry n input ≡ read e → (input ≡ encode_entry e) × FitsEntry n e
unfolding decode_entry encode_entry
entry-takes n [] e fits given = absurd cc
entry-takes n (zero ∷ rest) e fits given = absurd cc
entry-takes n (suc zero ∷ rest) e fits given =
    let a = bind_ok (decode_change n rest) (λ c. Ok (Commit c)) e given in
    let t = change-takes n rest a.0 (IsBytes-rest 1 rest fits) a.1 in
    subst (λ (y : Entry). (1 ∷ rest ≡ encode_entry y) × FitsEntry n y) (read_is (Commit a.0) e a.2) (ap (λ (x : List ℕ). 1 ∷ x) t.0, t.1)
entry-takes n (suc (suc zero) ∷ rest) e fits given =
    let a = bind_ok (decode_last_number rest) (λ number. Ok (Rewind number)) e given in
    let t = last-takes rest a.0 (IsBytes-rest 2 rest fits) a.1 in
    subst (λ (y : Entry). (2 ∷ rest ≡ encode_entry y) × FitsEntry n y) (read_is (Rewind a.0) e a.2) (ap (λ (x : List ℕ). 2 ∷ x) t.0, t.1)
entry-takes n (suc (suc (suc zero)) ∷ rest) e fits given =
    let a = bind_ok (decode_last_number rest) (λ number. Ok (DropBefore number)) e given in
    let t = last-takes rest a.0 (IsBytes-rest 3 rest fits) a.1 in
    subst (λ (y : Entry). (3 ∷ rest ≡ encode_entry y) × FitsEntry n y) (read_is (DropBefore a.0) e a.2) (ap (λ (x : List ℕ). 3 ∷ x) t.0, t.1)
entry-takes n (suc (suc (suc (suc zero))) ∷ rest) e fits given = absurd cc
entry-takes n (suc (suc (suc (suc (suc zero)))) ∷ rest) e fits given = clear-takes n rest e given
entry-takes n (suc (suc (suc (suc (suc (suc kind))))) ∷ rest) e fits given = absurd cc

pub is_encoded : (n : ℕ) (input : List ℕ) (r : Result BorrowedEntry DecodeError) → IsBytes input → Gives (view_entry n) r (decode_entry n input) → IfOk r (λ e. input ≡ encode_entry (view_entry n e))
is_encoded n input (Ok e) fits given = (entry-takes n input (view_entry n e) fits given).0
is_encoded n input (Err f) fits given = tt

pub is_fitting : (n : ℕ) (input : List ℕ) (r : Result BorrowedEntry DecodeError) → IsBytes input → Gives (view_entry n) r (decode_entry n input) → IfOk r (λ e. FitsEntry n (view_entry n e))
is_fitting n input (Ok e) fits given = (entry-takes n input (view_entry n e) fits given).1
is_fitting n input (Err f) fits given = tt

-- an encoding has a byte
pub entry_some : (e : Entry) → 0 < length (encode_entry e)
unfolding encode_entry
entry_some (Commit c) = omega arith
entry_some (Rewind number) = omega arith
entry_some (DropBefore number) = omega arith
entry_some Clear = omega arith

-- two entries with one encoding are one entry
pub one_encoding : (n : ℕ) (e f : Entry) → FitsEntry n e → FitsEntry n f → encode_entry e ≡ encode_entry f → e ≡ f
one_encoding n e f h k same = read_is e f (sym (entry-again n e h) ∙ ap (decode_entry n) same ∙ entry-again n f k)
