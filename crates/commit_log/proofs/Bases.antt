-- A base that is written is read again, and what is not read has a first error.
use Rattle.std.proofs.Common.{◌≡◌, ℕ, ◌+◌, ◌-◌, ◌*◌, ◌^◌, ◌<◌, ◌≤◌, Bool, true, false, cond, eqb, ltb, List, [], ◌∷◌, ◌++◌, length, get_or, map, take, drop, Option, Some, None, Result, Ok, Err, IfErr, refl, sym, ap, subst, ◌∙◌, append_assoc, arith, suc, inl, inr}
use Rattle.std.specs.Prelude.{alloc_error}
use Rattle.std.specs.Int.{w64, to_be_bytes}
use Rattle.std.proofs.lemmas.Bool.{cases_lt, eq-eqb, false≢true, le-ltb, lt-ltb, ne_eqb}
use Rattle.std.proofs.lemmas.List.{append-nil, drop_at, drop-drop, get_or-take, length-append, length-drop, length-take, take-append-drop}
use Rattle.bitmap_bytes.specs.Bits.{chunk_count}
use Rattle.bitmap_core.specs.declared.bitmap.codec.error.CodecError.{CodecError}
use Rattle.bitmap_core.specs.declared.bitmap.codec.error.CodecError.TheVariants as codec
use Rattle.bitmap_core.specs.Decoding.{DecodeError as StateError, chunk_bytes, decode_error, first_error, number as number_in, pruned_error, pruned_tests}
use Rattle.bitmap_core.specs.Encoding.{encoding, pruned_encoding}
use Rattle.bitmap_core.specs.PrunedBits.{PrunedBits, bit_len}
use Rattle.bitmap_core.proofs.Codec.DecodeErrors.{sound, sound_pruned}
use Rattle.bitmap_core.proofs.Codec.Encodings.{encoding-number, length-encoding}
use Rattle.bitmap_core.proofs.Codec.ReadAgain.{pruned_encoded_none}
use Rattle.bitmap_core.proofs.Pruned.Codec.{length-pruned, same_pruned_encoding}
use Rattle.commit_log.specs.declared.base.BaseError.{BaseError}
use Rattle.commit_log.specs.declared.base.BaseError.TheVariants as errors
use Rattle.commit_log.specs.declared.base.Past.{Past}
use Rattle.commit_log.specs.declared.base.Past.TheVariants.{NoCommit, Dropped, KeptUnder}
use Rattle.commit_log.specs.declared.entry.DecodeError.{DecodeError}
use Rattle.commit_log.specs.declared.entry.DecodeError.TheVariants as entry
use Rattle.commit_log.specs.Base.{Base, FitsBase, IsBaseErrorWithin, IsPast, Names, Reason, base_error, decode_numbers, encode_base, first_reason, flag, has_more, of_state, past_count, past_number, past_tests, state_tests}
use Rattle.commit_log.specs.Base.Reason.{Tag, Short, Flag, Number, State, Long}
use Rattle.commit_log.specs.Entries.{decode_number}
use Rattle.commit_log.proofs.Entries.{IsBytes, IsBytes-drop, not_both, read, read_is, size-again, size-back}

-- ---- lists of tests

-- a test that does not hold
pub skip : (b : Bool) (why : Reason) (rest : Option Reason) → b ≡ false → cond b (Some why) rest ≡ rest
skip b why rest e = rw e refl

-- a test that holds
pub stop : (b : Bool) (why : Reason) (rest : Option Reason) → b ≡ true → cond b (Some why) rest ≡ Some why
stop b why rest e = rw e refl

some_step : (b : Bool) (first why : StateError) (rest : Option StateError) (others : Option Reason) → (rest ≡ Some why → others ≡ Some (State why)) → cond b (Some first) rest ≡ Some why → cond b (Some (State first)) others ≡ Some (State why)
some_step true first why rest others f e = cc
some_step false first why rest others f e = f e

none_step : (b : Bool) (first : StateError) (rest : Option StateError) (others more : Option Reason) → (rest ≡ None → others ≡ more) → cond b (Some first) rest ≡ None → cond b (Some (State first)) others ≡ more
none_step true first rest others more f e = absurd cc
none_step false first rest others more f e = f e

-- the first error of a pruned bitmap is that of the state
state_some : (tests : List (Bool × StateError)) (more : List (Bool × Reason)) (why : StateError) → first_error tests ≡ Some why → first_reason (map of_state tests ++ more) ≡ Some (State why)
state_some [] more why e = absurd cc
state_some (t ∷ ts) more why e = some_step t.0 t.1 why (first_error ts) (first_reason (map of_state ts ++ more)) (state_some ts more why) e

state_none : (tests : List (Bool × StateError)) (more : List (Bool × Reason)) → first_error tests ≡ None → first_reason (map of_state tests ++ more) ≡ first_reason more
state_none [] more e = refl
state_none (t ∷ ts) more e = none_step t.0 t.1 (first_error ts) (first_reason (map of_state ts ++ more)) (first_reason more) (state_none ts more) e

-- ---- the state

abbrev pub any_len : ℕ → Bool
any_len len = true

-- a range that admits the number of retained bits is as good as one that admits all
pub any_range : (n : ℕ) (range : ℕ → Bool) (bytes : List ℕ) → range (number_in (drop 8 (drop 18 bytes))) ≡ true → base_error n range bytes ≡ base_error n any_len bytes
unfolding base_error state_tests
any_range n range bytes e = rw e refl

-- an encoding has the bytes of its chunks, and 16 more
pub state_size : (n : ℕ) (b : PrunedBits) (left text : List ℕ) → length b.bits < 2 ^ 64 → text ≡ pruned_encoding n b ++ left → length text ≡ 16 + chunk_bytes n (drop 8 text) + length left
unfolding pruned_encoding
state_size n b left text fits e =
    let body : drop 8 text ≡ encoding n b.bits ++ left = ap (drop 8) (e ∙ append_assoc (to_be_bytes w64 b.pruned) (encoding n b.bits) left) ∙ drop_at (to_be_bytes w64 b.pruned) (encoding n b.bits ++ left) 8 refl in
    let size : chunk_bytes n (drop 8 text) ≡ n * chunk_count n (length b.bits) = ap (λ (xs : List ℕ). chunk_bytes n xs) body ∙ ap (λ (k : ℕ). n * chunk_count n k) (encoding-number n b.bits left fits) in
    omega (arith, ap length e, length-append (pruned_encoding n b) left, length-pruned n b, length-encoding n b.bits, size)

pub state_whole : (n : ℕ) (range : ℕ → Bool) (text : List ℕ) → pruned_error n range text ≡ None → 16 + chunk_bytes n (drop 8 text) ≤ length text
state_whole n range text e =
    let s = sound_pruned n range text e in
    let t = sound n range (drop 8 text) s.bits in
    omega (arith, s.long, t.whole, length-drop 8 text)

pub state_long : (n : ℕ) (range : ℕ → Bool) (text : List ℕ) → pruned_error n range text ≡ None → has_more n text ≡ true → first_reason (state_tests n range text) ≡ Some Long
unfolding pruned_error state_tests
state_long n range text e more = state_none (pruned_tests n range text) ((has_more n text, Long) ∷ []) e ∙ stop (has_more n text) Long None more

pub state_ends : (n : ℕ) (range : ℕ → Bool) (text : List ℕ) → pruned_error n range text ≡ None → has_more n text ≡ false → first_reason (state_tests n range text) ≡ None
unfolding pruned_error state_tests
state_ends n range text e more = state_none (pruned_tests n range text) ((has_more n text, Long) ∷ []) e ∙ skip (has_more n text) Long None more

-- bytes are left after a state that was read
pub left_long : (n : ℕ) (range : ℕ → Bool) (b : PrunedBits) (left text : List ℕ) → length b.bits < 2 ^ 64 → text ≡ pruned_encoding n b ++ left → 0 < length left → pruned_error n range text ≡ None → first_reason (state_tests n range text) ≡ Some Long
left_long n range b left text fits is more e = state_long n range text e (lt-ltb (16 + chunk_bytes n (drop 8 text)) (length text) (omega (arith, more, state_size n b left text fits is)))

-- an error of the state that is not that of an allocation
pub state_named : (n : ℕ) (range : ℕ → Bool) (e : CodecError) (text : List ℕ) → (e ≡ codec.OutOfMemory → ⊥) → pruned_error n range text ≡ decode_error e → Names (errors.State e) (first_reason (state_tests n range text))
unfolding pruned_error state_tests
state_named n range codec.EndOfBuffer text other is = (_, refl, state_some (pruned_tests n range text) ((has_more n text, Long) ∷ []) _ is)
state_named n range (codec.InvalidLength len) text other is = (_, refl, state_some (pruned_tests n range text) ((has_more n text, Long) ∷ []) _ is)
state_named n range (codec.Invalid what why) text other is = (_, refl, state_some (pruned_tests n range text) ((has_more n text, Long) ∷ []) _ is)
state_named n range codec.OutOfMemory text other is = absurd (other refl)

some_left : (left : List ℕ) (r : Bool) → r ≡ eqb (length left) 0 → r ≡ false → 0 < length left
some_left [] r is test = absurd (false≢true (sym test ∙ is))
some_left (x ∷ xs) r is test = omega arith

-- the state is read, and then bytes are left
pub read_long : (n : ℕ) (range : ℕ → Bool) (b : PrunedBits) (left text : List ℕ) (r : Bool) → pruned_error n range text ≡ None → bit_len n b < 2 ^ 64
    → text ≡ pruned_encoding n b ++ left → r ≡ eqb (length left) 0 → r ≡ false → first_reason (state_tests n range text) ≡ Some Long
read_long n range b left text r none fits is empty test = left_long n range b left text (omega (arith, fits)) is (some_left left r empty test) none

-- a state that is read has a number of retained bits that the range admits
pub state_admitted : (n : ℕ) (range : ℕ → Bool) (b : PrunedBits) (left text : List ℕ) → bit_len n b < 2 ^ 64 → text ≡ pruned_encoding n b ++ left → pruned_error n range text ≡ None → range (length b.bits) ≡ true
unfolding pruned_encoding
state_admitted n range b left text fits is e =
    let s = sound n range (drop 8 text) (sound_pruned n range text e).bits in
    let body : drop 8 text ≡ encoding n b.bits ++ left = ap (drop 8) (is ∙ append_assoc (to_be_bytes w64 b.pruned) (encoding n b.bits) left) ∙ drop_at (to_be_bytes w64 b.pruned) (encoding n b.bits ++ left) 8 refl in
    let count : number_in (drop 8 text) ≡ length b.bits = ap number_in body ∙ encoding-number n b.bits left (omega (arith, fits)) in
    ap range (sym count) ∙ s.admitted

-- ---- the tag and the flag

pub flag_missing : (n : ℕ) (range : ℕ → Bool) (bytes : List ℕ) → length bytes < 1 → base_error n range bytes ≡ Some Short
unfolding base_error
flag_missing n range [] short = refl
flag_missing n range (tag ∷ rest) short = absurd (omega (arith, short))

pub tag_other : (n : ℕ) (range : ℕ → Bool) (bytes : List ℕ) → 1 ≤ length bytes → (get_or bytes 0 0 ≡ 4 → ⊥) → base_error n range bytes ≡ Some Tag
unfolding base_error
tag_other n range [] long other = absurd (omega (arith, long))
tag_other n range (tag ∷ rest) long other = rw (ne_eqb tag 4 other) refl

pub tag_alone : (n : ℕ) (range : ℕ → Bool) (bytes : List ℕ) → 1 ≤ length bytes → get_or bytes 0 0 ≡ 4 → length bytes < 2 → base_error n range bytes ≡ Some Short
unfolding base_error
tag_alone n range [] long tag short = absurd (omega (arith, long))
tag_alone n range (first ∷ []) long tag short = rw (eq-eqb first 4 tag) refl
tag_alone n range (first ∷ second ∷ rest) long tag short = absurd (omega (arith, short))

-- the tests from the fourth on
abbrev later_reason : ℕ → (ℕ → Bool) → ℕ → List ℕ → Option Reason
later_reason n range f rest = cond (ltb (length (4 ∷ f ∷ rest)) 18) (Some Short) (first_reason (past_tests f (number_in rest) (number_in (drop 8 rest)) ++ state_tests n range (drop 16 rest)))

two_fields : (n : ℕ) (range : ℕ → Bool) (f : ℕ) (rest : List ℕ) → base_error n range (4 ∷ f ∷ rest) ≡ cond (ltb 2 f) (Some Flag) (later_reason n range f rest)
unfolding base_error
two_fields n range f rest = skip (ltb (length (4 ∷ f ∷ rest)) 2) Short (cond (ltb 2 f) (Some Flag) (later_reason n range f rest)) (le-ltb (length (4 ∷ f ∷ rest)) 2 (omega arith))

pub flag_above : (n : ℕ) (range : ℕ → Bool) (bytes rest : List ℕ) → 1 ≤ length rest → get_or bytes 0 0 ≡ 4 → rest ≡ take (length bytes - 1) (drop 1 bytes) → 2 < get_or rest 0 0 → base_error n range bytes ≡ Some Flag
flag_above n range [] rest long tag is above = absurd (omega (arith, long, ap length is))
flag_above n range (first ∷ []) rest long tag is above = absurd (omega (arith, long, ap length is, length-take {A = ℕ} (length (first ∷ []) - 1) []))
flag_above n range (first ∷ second ∷ later) rest long tag is above =
    let flag_is : get_or rest 0 0 ≡ second = ap (λ (xs : List ℕ). get_or xs 0 0) is ∙ get_or-take (length (first ∷ second ∷ later) - 1) (second ∷ later) 0 0 (omega arith) in
    (λ i. base_error n range (tag i ∷ second ∷ later))
    ∙ two_fields n range second later
    ∙ stop (ltb 2 second) Flag (later_reason n range second later) (lt-ltb 2 second (omega (arith, above, flag_is)))

-- ---- the fields

number_cut : (rest : List ℕ) → length rest < 8 → decode_number rest ≡ Err entry.Short
number_cut rest short = rw (lt-ltb (length rest) 8 short) refl

number_there : (rest : List ℕ) → 8 ≤ length rest → decode_number rest ≡ read (number_in rest, drop 8 rest)
number_there rest long = rw (le-ltb (length rest) 8 long) refl

numbers_cut : (rest : List ℕ) → length rest < 16 → decode_numbers rest ≡ Err entry.Short
unfolding decode_numbers
numbers_cut rest short = elim (cases_lt (length rest) 8) [
  | inl less ↦ rw (number_cut rest less) refl
  | inr more ↦ rw (number_there rest more, number_cut (drop 8 rest) (omega (arith, short, length-drop 8 rest))) refl
]

numbers_there : (rest : List ℕ) → 16 ≤ length rest → decode_numbers rest ≡ read (number_in rest, number_in (drop 8 rest), drop 8 (drop 8 rest))
unfolding decode_numbers
numbers_there rest long = rw (number_there rest (omega (arith, long)), number_there (drop 8 rest) (omega (arith, long, length-drop 8 rest))) refl

-- too few bytes for two numbers
pub numbers_short : (rest : List ℕ) (d : DecodeError) → decode_numbers rest ≡ Err d → length rest < 16
numbers_short rest d e = elim (cases_lt (length rest) 16) [
  | inl less ↦ less
  | inr more ↦ absurd (not_both _ d (sym (numbers_there rest more) ∙ e))
]

-- two numbers at the start of some bytes, and the bytes after them
pub record AreNumbers (rest : List ℕ) (first second : ℕ) (left : List ℕ) : Type 0 where
  pub long : 16 ≤ length rest
  pub first_is : first ≡ number_in rest
  pub second_is : second ≡ number_in (drop 8 rest)
  pub left_is : left ≡ drop 16 rest

pub numbers_found : (rest : List ℕ) (first second : ℕ) (left : List ℕ) → decode_numbers rest ≡ read (first, second, left) → AreNumbers rest first second left
numbers_found rest first second left e = elim (cases_lt (length rest) 16) [
  | inl less ↦ absurd (not_both (first, second, left) entry.Short (sym e ∙ numbers_cut rest less))
  | inr more ↦
      let is : (first, second, left) ≡ (number_in rest, number_in (drop 8 rest), drop 8 (drop 8 rest)) = read_is _ _ (sym e ∙ numbers_there rest more) in
      record { long = more; first_is = ap (λ (x : ℕ × ℕ × List ℕ). x.0) is; second_is = ap (λ (x : ℕ × ℕ × List ℕ). x.1) is; left_is = ap (λ (x : ℕ × ℕ × List ℕ). x.2) is ∙ drop-drop 8 8 rest }
]

-- a base that has a tag and a flag, and too few bytes
pub fields_short : (n : ℕ) (range : ℕ → Bool) (f : ℕ) (bytes rest : List ℕ) → bytes ≡ 4 ∷ f ∷ rest → f ≤ 2 → length rest < 16 → base_error n range bytes ≡ Some Short
fields_short n range f bytes rest e le short =
    ap (base_error n range) e
    ∙ two_fields n range f rest
    ∙ skip (ltb 2 f) Flag (later_reason n range f rest) (le-ltb 2 f (omega (arith, le)))
    ∙ stop (ltb (length (4 ∷ f ∷ rest)) 18) Short (first_reason (past_tests f (number_in rest) (number_in (drop 8 rest)) ++ state_tests n range (drop 16 rest))) (lt-ltb (length (4 ∷ f ∷ rest)) 18 (omega (arith, short)))

-- a base that has all fields has the first error of these, and of its state
pub fields_pass : (n : ℕ) (range : ℕ → Bool) (f number count : ℕ) (bytes rest left : List ℕ) → bytes ≡ 4 ∷ f ∷ rest → f ≤ 2 → AreNumbers rest number count left
    → base_error n range bytes ≡ first_reason (past_tests f number count ++ state_tests n range left)
fields_pass n range f number count bytes rest left e le are =
    ap (base_error n range) e
    ∙ two_fields n range f rest
    ∙ skip (ltb 2 f) Flag (later_reason n range f rest) (le-ltb 2 f (omega (arith, le)))
    ∙ skip (ltb (length (4 ∷ f ∷ rest)) 18) Short (first_reason (past_tests f (number_in rest) (number_in (drop 8 rest)) ++ state_tests n range (drop 16 rest))) (le-ltb (length (4 ∷ f ∷ rest)) 18 (omega (arith, are.long)))
    ∙ (λ i. first_reason (past_tests f (sym are.first_is i) (sym are.second_is i) ++ state_tests n range (sym are.left_is i)))

-- what a flag, a number and a count say passes their tests
pub past_passes : (past : Past) (more : List (Bool × Reason)) → past_number past < 2 ^ 64 - 1 → first_reason (past_tests (flag past) (past_number past) (past_count past) ++ more) ≡ first_reason more
past_passes NoCommit more small = refl
past_passes (Dropped number) more small = skip (eqb number (2 ^ 64 - 1)) Number (first_reason more) (ne_eqb number (2 ^ 64 - 1) (λ e. absurd (omega (arith, e, small))))
past_passes (KeptUnder number count) more small = skip (eqb number (2 ^ 64 - 1)) Number (first_reason more) (ne_eqb number (2 ^ 64 - 1) (λ e. absurd (omega (arith, e, small))))

pub found_passes : (f number count : ℕ) (past : Past) (more : List (Bool × Reason)) → IsPast f number count past → past_number past < 2 ^ 64 - 1 → first_reason (past_tests f number count ++ more) ≡ first_reason more
found_passes f number count past more is small =
    (λ i. first_reason (past_tests (sym is.0 i) (sym is.1 i) (sym is.2 i) ++ more)) ∙ past_passes past more small

-- the error of the flag, the number and the count is the error of the base
pub past_error : (n : ℕ) (range : ℕ → Bool) (f number count : ℕ) (bytes rest left : List ℕ) (e : BaseError) → bytes ≡ 4 ∷ f ∷ rest → f ≤ 2 → decode_numbers rest ≡ read (number, count, left)
    → ((more : List (Bool × Reason)) → Names e (first_reason (past_tests f number count ++ more))) → IsBaseErrorWithin n range bytes e
past_error n range f number count bytes rest left e is le numbers names =
    subst (Names e) (sym (fields_pass n range f number count bytes rest left is le (numbers_found rest number count left numbers))) (names (state_tests n range left))

-- the error of the state is the error of the base, if the fields before it have none
pub state_error : (n : ℕ) (range : ℕ → Bool) (f number count : ℕ) (bytes rest left : List ℕ) (past : Past) (e : BaseError) → bytes ≡ 4 ∷ f ∷ rest → f ≤ 2 → decode_numbers rest ≡ read (number, count, left)
    → IsPast f number count past → past_number past < 2 ^ 64 - 1 → Names e (first_reason (state_tests n range left)) → IsBaseErrorWithin n range bytes e
state_error n range f number count bytes rest left past e is le numbers known small names =
    let pass = fields_pass n range f number count bytes rest left is le (numbers_found rest number count left numbers) in
    subst (Names e) (sym (pass ∙ found_passes f number count past (state_tests n range left) known small)) names

-- ---- a base

abbrev pub fields_of : ℕ → Base → List ℕ
fields_of n b = to_be_bytes w64 (past_number b.past) ++ (to_be_bytes w64 (past_count b.past) ++ pruned_encoding n b.bits)

flag_le : (past : Past) → flag past ≤ 2
flag_le NoCommit = omega arith
flag_le (Dropped number) = omega arith
flag_le (KeptUnder number count) = omega arith

pub fields_are : (n : ℕ) (b : Base) → FitsBase n b → AreNumbers (fields_of n b) (past_number b.past) (past_count b.past) (pruned_encoding n b.bits)
fields_are n b fits =
    let first : List ℕ = to_be_bytes w64 (past_number b.past) in
    let second : List ℕ = to_be_bytes w64 (past_count b.past) in
    let left : List ℕ = pruned_encoding n b.bits in
    let rest : drop 8 (first ++ (second ++ left)) ≡ second ++ left = drop_at first (second ++ left) 8 refl in
    record {
      long = omega (arith, length-append first (second ++ left), length-append second left);
      first_is = sym (size-again (past_number b.past) (second ++ left) (omega (arith, fits.number)));
      second_is = sym (ap number_in rest ∙ size-again (past_count b.past) left fits.count);
      left_is = sym (sym (drop-drop 8 8 (first ++ (second ++ left))) ∙ ap (drop 8) rest ∙ drop_at second left 8 refl);
    }

-- the encoding of a base has no error
pub base_none : (n : ℕ) (range : ℕ → Bool) (b : Base) (bytes : List ℕ) → 0 < n → FitsBase n b → range (length b.bits.bits) ≡ true → bytes ≡ encode_base n b → base_error n range bytes ≡ None
unfolding encode_base
base_none n range b bytes pos fits admitted e =
    let state : List ℕ = pruned_encoding n b.bits in
    let whole : state ≡ pruned_encoding n b.bits ++ [] = sym (append-nil (pruned_encoding n b.bits)) in
    let small : length b.bits.bits < 2 ^ 64 = omega (arith, fits.len) in
    let size = state_size n b.bits [] state small whole in
    fields_pass n range (flag b.past) (past_number b.past) (past_count b.past) bytes (fields_of n b) state e (flag_le b.past) (fields_are n b fits)
    ∙ past_passes b.past (state_tests n range state) fits.number
    ∙ state_ends n range state (pruned_encoded_none n range state b.bits [] pos fits.len fits.pruned admitted whole) (le-ltb (16 + chunk_bytes n (drop 8 state)) (length state) (omega (arith, size)))

names_none : (e : BaseError) → Names e None → e ≡ errors.Memory alloc_error
names_none errors.Tag h = absurd cc
names_none errors.Short h = absurd cc
names_none errors.Flag h = absurd cc
names_none errors.Number h = absurd cc
names_none errors.Count h = absurd cc
names_none (errors.State why) h = absurd (let f = h.2 in cc)
names_none errors.Long h = absurd cc
names_none (errors.Memory why) h = refl

-- a base is not read for no other reason than an allocation
pub only_memory : (n : ℕ) (range : ℕ → Bool) (b : Base) (bytes : List ℕ) (e : BaseError) → 0 < n → IsBaseErrorWithin n range bytes e → FitsBase n b → range (length b.bits.bits) ≡ true → bytes ≡ encode_base n b → e ≡ errors.Memory alloc_error
only_memory n range b bytes e pos h fits admitted is = names_none e (subst (Names e) (base_none n range b bytes pos fits admitted is) h)

pub if_only_memory : {X : Type 0} (n : ℕ) (range : ℕ → Bool) (b : Base) (bytes : List ℕ) (r : Result X BaseError) → 0 < n → IfErr r (IsBaseErrorWithin n range bytes) → FitsBase n b → range (length b.bits.bits) ≡ true → bytes ≡ encode_base n b
    → IfErr r (λ e. e ≡ errors.Memory alloc_error)
if_only_memory n range b bytes (Ok x) pos h fits admitted is = tt
if_only_memory n range b bytes (Err e) pos h fits admitted is = only_memory n range b bytes e pos h fits admitted is

-- a base is encoded as it was read
numbers_encode : (rest left : List ℕ) (first second : ℕ) → IsBytes rest → AreNumbers rest first second left → rest ≡ to_be_bytes w64 first ++ (to_be_bytes w64 second ++ left)
numbers_encode rest left first second fits are =
    let more : IsBytes (drop 8 rest) = IsBytes-drop 8 rest fits in
    let a : rest ≡ to_be_bytes w64 (number_in rest) ++ drop 8 rest = sym (ap (λ (xs : List ℕ). xs ++ drop 8 rest) (size-back rest fits (omega (arith, are.long))) ∙ take-append-drop 8 rest) in
    let b : drop 8 rest ≡ to_be_bytes w64 (number_in (drop 8 rest)) ++ drop 8 (drop 8 rest) =
    sym (ap (λ (xs : List ℕ). xs ++ drop 8 (drop 8 rest)) (size-back (drop 8 rest) more (omega (arith, are.long, length-drop 8 rest))) ∙ take-append-drop 8 (drop 8 rest)) in
    let d : drop 8 (drop 8 rest) ≡ left = drop-drop 8 8 rest ∙ sym are.left_is in
    a ∙ (λ i. to_be_bytes w64 (sym are.first_is i) ++ b i) ∙ (λ i. to_be_bytes w64 first ++ (to_be_bytes w64 (sym are.second_is i) ++ d i))

pub base_found : (n f number count : ℕ) (bytes rest left : List ℕ) (past : Past) (bits : PrunedBits) → IsBytes bytes → bytes ≡ 4 ∷ f ∷ rest → AreNumbers rest number count left
    → IsPast f number count past → left ≡ pruned_encoding n bits → bytes ≡ encode_base n (record { bits = bits; past = past })
unfolding encode_base
base_found n f number count bytes rest left past bits fits e are is state =
    let inner : IsBytes rest = λ i. subst IsBytes e fits (suc (suc i)) in
    e ∙ (λ i. 4 ∷ f ∷ numbers_encode rest left number count inner are i) ∙ (λ i. 4 ∷ sym is.0 i ∷ (to_be_bytes w64 (sym is.1 i) ++ (to_be_bytes w64 (sym is.2 i) ++ state i)))

-- ---- one base

one_past : (p q : Past) → flag p ≡ flag q → past_number p ≡ past_number q → past_count p ≡ past_count q → p ≡ q
one_past NoCommit NoCommit f g h = refl
one_past NoCommit (Dropped l) f g h = absurd (omega arith)
one_past NoCommit (KeptUnder l j) f g h = absurd (omega arith)
one_past (Dropped k) NoCommit f g h = absurd (omega arith)
one_past (Dropped k) (Dropped l) f g h = ap Dropped g
one_past (Dropped k) (KeptUnder l j) f g h = absurd (omega arith)
one_past (KeptUnder k i) NoCommit f g h = absurd (omega arith)
one_past (KeptUnder k i) (Dropped l) f g h = absurd (omega arith)
one_past (KeptUnder k i) (KeptUnder l j) f g h = cc

-- two bases with one encoding are one base
pub one_base : (n : ℕ) (b c : Base) → 0 < n → FitsBase n b → FitsBase n c → encode_base n b ≡ encode_base n c → b ≡ c
unfolding encode_base
one_base n b c pos h k e =
    let known : flag b.past ≡ flag c.past = cc in
    let same : fields_of n b ≡ fields_of n c = cc in
    let x = fields_are n b h in
    let y = fields_are n c k in
    let number : past_number b.past ≡ past_number c.past = x.first_is ∙ ap number_in same ∙ sym y.first_is in
    let count : past_count b.past ≡ past_count c.past = x.second_is ∙ ap (λ (xs : List ℕ). number_in (drop 8 xs)) same ∙ sym y.second_is in
    let state : pruned_encoding n b.bits ≡ pruned_encoding n c.bits = x.left_is ∙ ap (drop 16) same ∙ sym y.left_is in
    let past : b.past ≡ c.past = one_past b.past c.past known number count in
    let bits = (same_pruned_encoding n b.bits c.bits [] [] pos h.len k.len h.pruned k.pruned (ap (λ (xs : List ℕ). xs ++ []) state)).0 in
    λ j. record { bits = bits j; past = past j }
