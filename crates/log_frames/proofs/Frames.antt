-- A frame that is written is read again, a frame that is cut off is torn, and bytes have one reading as frames.
use Rattle.std.proofs.Common.{◌≡◌, ℕ, zero, suc, ◌+◌, ◌-◌, ◌^◌, ◌<◌, ◌≤◌, Bool, true, false, cond, not, ltb, eqb, List, [], ◌∷◌, ◌++◌, length, take, drop, Result, Ok, Err, IfOk, refl, sym, ap, subst, ◌∙◌, append_assoc, arith, inl, inr}
use Rattle.std.proofs.Math.Dec.{eqb-suc-zero}
use Rattle.std.proofs.Math.Seq.{take-append-add, drop-append-add}
use Rattle.std.proofs.lemmas.Bool.{cases_lt, lt-leb, le-leb, ltb-false, le-ltb, lt-ltb, eq-eqb, eqb-true, not-false, or_parts}
use Rattle.std.proofs.lemmas.List.{take_at, drop-drop, take-append-drop, take-append-le, take_rest, length-append, length-take, length-drop}
use Rattle.std.specs.List.{AllByRecursion, IsSplitAt}
use Rattle.log_frames.specs.declared.frame.Place.{Place}
use Rattle.log_frames.specs.declared.frame.Frame.{Frame}
use Rattle.log_frames.specs.declared.frame.Stop.{Stop}
use Rattle.log_frames.specs.declared.frame.Stop.TheVariants.{Torn, BadHead, BadDigest}
use Rattle.log_frames.specs.Cuts.{CutsAtAFrame}
use Rattle.log_frames.specs.Frames.{be64, number_at, head_check, head_fails, chained, frame, frames, next, place_after, are_zero, body_at, frame_at, view, Gives, IsBody, Splits, whole_in}
use Rattle.log_frames.proofs.Numbers.{IsBytes, IsBytes-drop, number-again, number-takes, not-are_zero}
use Rattle.log_frames.proofs.DigestRange.{digest-lt}

abbrev pub done : {A : Type 0} → A → Result A Stop
done x = Ok x

-- the number of bytes of a frame
pub length-frame : (place : Place) (body : List ℕ) → length (frame place body) ≡ 24 + length body
unfolding frame
length-frame place body = omega (arith, length-append body (be64 (chained place body)))

-- a frame, and what follows it, as a head and the bytes behind it
head_first : (place : Place) (body rest : List ℕ)
    → frame place body ++ rest ≡ be64 (length body) ++ (be64 (head_check place (length body)) ++ (body ++ (be64 (chained place body) ++ rest)))
unfolding frame
head_first place body rest =
    append_assoc (be64 (length body)) (be64 (head_check place (length body)) ++ (body ++ be64 (chained place body))) rest
    ∙ ap (λ (x : List ℕ). be64 (length body) ++ x)
    (append_assoc (be64 (head_check place (length body))) (body ++ be64 (chained place body)) rest
    ∙ ap (λ (x : List ℕ). be64 (head_check place (length body)) ++ x) (append_assoc body (be64 (chained place body)) rest))

is_zero-false : (n : ℕ) → 0 < n → eqb n 0 ≡ false
is_zero-false zero h = absurd (omega arith)
is_zero-false (suc n) h = eqb-suc-zero n

-- a head that was written for a place is read there
pub head-again : (place : Place) (size : ℕ) (rest : List ℕ) → 0 < size → size < 2 ^ 64
    → frame_at place (be64 size ++ (be64 (head_check place size) ++ rest)) ≡ body_at place size rest
unfolding frame_at
head-again place size rest some h =
    let check : ℕ = head_check place size in
    let bytes : List ℕ = be64 size ++ (be64 check ++ rest) in
    let long : ltb (length bytes) 16 ≡ false = le-ltb _ _ (omega arith) in
    let size-is : number_at 0 bytes ≡ size = number-again [] size (be64 check ++ rest) 0 refl h in
    let check-is : number_at 8 bytes ≡ check = number-again (be64 size) check rest 8 refl (digest-lt (be64 place.at ++ be64 size)) in
    let written : are_zero bytes ≡ false = not-are_zero bytes (omega (arith, size-is, some)) in
    rw (long, written, size-is, check-is, is_zero-false size some, eq-eqb check check refl) refl

-- a body that was written for a place is read there
pub body-again : (place : Place) (body rest : List ℕ) → body_at place (length body) (body ++ (be64 (chained place body) ++ rest)) ≡ done (body, rest)
body-again place body rest =
    let end : List ℕ = be64 (chained place body) ++ rest in
    let long : ltb (length (body ++ end)) (length body + 8) ≡ false = le-ltb _ _ (omega (arith, length-append body end)) in
    let number : number_at (length body) (body ++ end) ≡ chained place body = number-again body (chained place body) rest (length body) refl (digest-lt (be64 place.digest ++ body)) in
    rw (long, number, take_at body end (length body) refl, eq-eqb (chained place body) (chained place body) refl, drop-append-add body end 8) refl

-- what is framed is read again, whatever follows
pub frame-again : (place : Place) (body rest : List ℕ) → IsBody body → frame_at place (frame place body ++ rest) ≡ done (body, rest)
frame-again place body rest h =
    let size : ℕ = length body in
    let behind : List ℕ = body ++ (be64 (chained place body) ++ rest) in
    ap (frame_at place) (head_first place body rest)
    ∙ head-again place size behind h.some h.fits
    ∙ body-again place body rest

-- bytes behind a head that end before the body and its digest do
pub body-short : (place : Place) (size : ℕ) (rest : List ℕ) → length rest < size + 8 → body_at place size rest ≡ Err Torn
body-short place size rest h = let short : ltb (length rest) (size + 8) ≡ true = lt-ltb _ _ h in rw short refl

-- a frame that is cut off is torn
pub frame-torn : (place : Place) (body : List ℕ) (m : ℕ) → IsBody body → m < length (frame place body) → frame_at place (take m (frame place body)) ≡ Err Torn
unfolding frame_at frame
frame-torn place body m h lt =
    elim (cases_lt m 16) [
      | inl few ↦
          let short : ltb (length (take m (frame place body))) 16 ≡ true = lt-ltb _ _ (omega (arith, length-take m (frame place body))) in
          rw short refl
      | inr enough ↦
          let size : ℕ = length body in
          let check : ℕ = head_check place size in
          let k : ℕ = m - 16 in
          let behind : List ℕ = body ++ be64 (chained place body) in
          let is : m ≡ 16 + k = omega arith in
          let cut : take m (frame place body) ≡ be64 size ++ (be64 check ++ take k behind) = ap (λ (x : ℕ). take x (frame place body)) is ∙ take-append-add (be64 size ++ be64 check) behind k in
          let short : length (take k behind) < size + 8 = omega (arith, length-take k behind, length-frame place body) in
          ap (frame_at place) cut
          ∙ head-again place size (take k behind) h.some h.fits
          ∙ body-short place size (take k behind) short
    ]

-- ---- reading, step by step

-- a body and its digest are read by the parts of what follows a head
pub body-reads : (place : Place) (size : ℕ) (rest body after : List ℕ) → IsSplitAt rest size body after → 8 ≤ length after → number_at 0 after ≡ chained place body
    → body_at place size rest ≡ done (body, take (length after - 8) (drop 8 after))
body-reads place size rest body after s enough digest-is =
    let long : ltb (length rest) (size + 8) ≡ false = le-ltb _ _ (omega (arith, s.4)) in
    let same : number_at size rest ≡ chained place (take size rest) =
    ap (number_at 0) (sym s.2) ∙ digest-is ∙ ap (chained place) s.1 in
    let passes : eqb (number_at size rest) (chained place (take size rest)) ≡ true = eq-eqb _ _ same in
    let tail : drop (size + 8) rest ≡ take (length after - 8) (drop 8 after) = sym (take_rest after 8 ∙ ap (drop 8) s.2 ∙ drop-drop 8 size rest) in
    rw (long, passes) (ap done (ap (λ (x : List ℕ). (x, drop (size + 8) rest)) (sym s.1) ∙ ap (λ (x : List ℕ). (body, x)) tail))

-- a head that fails is found
pub frame-fails : (place : Place) (bytes : List ℕ) (size check : ℕ) → 16 ≤ length bytes → are_zero bytes ≡ false → size ≡ number_at 0 bytes → check ≡ number_at 8 bytes
    → head_fails place size check ≡ true → frame_at place bytes ≡ Err BadHead
unfolding frame_at
frame-fails place bytes size check enough written size-is check-is fails =
    let long : ltb (length bytes) 16 ≡ false = le-ltb _ _ enough in
    rw (long, written, sym size-is, sym check-is, fails) refl

-- a frame is read by what follows its head, if the head passes
pub frame-reads : (place : Place) (bytes : List ℕ) (size check : ℕ) → 16 ≤ length bytes → are_zero bytes ≡ false → size ≡ number_at 0 bytes → check ≡ number_at 8 bytes
    → head_fails place size check ≡ false → body_at place size (take (length bytes - 16) (drop 16 bytes)) ≡ frame_at place bytes
unfolding frame_at
frame-reads place bytes size check enough written size-is check-is passes =
    let long : ltb (length bytes) 16 ≡ false = le-ltb _ _ enough in
    rw (long, written, sym size-is, sym check-is, passes) (ap (body_at place size) (take_rest bytes 16))

-- for `read_body`
pub ruleset body_steps = body-reads

-- ---- what is read was framed

-- what is read from bytes is a frame at their start
pub record Takes (place : Place) (bytes body rest : List ℕ) : Type 0 where
  pub parts : bytes ≡ frame place body ++ rest
  pub is_body : IsBody body

-- a test that did not end the read
guard_ok : {A : Type 0} (b : Bool) (d : Stop) (r : Result A Stop) (y : A) → cond b (Err d) r ≡ done y → (b ≡ false) × (r ≡ done y)
guard_ok true d r y e = absurd cc
guard_ok false d r y e = (refl, e)

pub ok_is : {A : Type 0} (x y : A) → done x ≡ done y → x ≡ y
ok_is x y e = cc

positive : (n : ℕ) → eqb n 0 ≡ false → 0 < n
positive zero e = absurd cc
positive (suc n) e = omega arith

-- bytes whose head and digest pass are a frame and what is after it
takes_parts : (place : Place) (bytes : List ℕ) (size check : ℕ) → IsBytes bytes → length bytes < 2 ^ 64 → 16 ≤ length bytes → size + 8 ≤ length (drop 16 bytes)
    → size ≡ number_at 0 bytes → check ≡ number_at 8 bytes → 0 < size → check ≡ head_check place size → number_at size (drop 16 bytes) ≡ chained place (take size (drop 16 bytes))
    → Takes place bytes (take size (drop 16 bytes)) (drop (size + 8) (drop 16 bytes))
takes_parts place bytes size check fits small long enough size-is check-is some head-is digest-is =
    let after : List ℕ = drop 16 bytes in
    let body : List ℕ = take size after in
    let rest : List ℕ = drop (size + 8) after in
    let body-size : length body ≡ size = omega (arith, length-take size after) in
    let end : drop size after ≡ be64 (chained place body) ++ rest = number-takes size after (IsBytes-drop 16 bytes fits) enough ∙ ap (λ (n : ℕ). be64 n ++ rest) digest-is in
    let tail : after ≡ body ++ (be64 (chained place body) ++ rest) = sym (take-append-drop size after) ∙ ap (λ (x : List ℕ). body ++ x) end in
    let second : drop 8 bytes ≡ be64 (head_check place size) ++ after = number-takes 8 bytes fits (omega arith) ∙ ap (λ (n : ℕ). be64 n ++ after) (sym check-is ∙ head-is) in
    let first : bytes ≡ be64 size ++ drop 8 bytes = number-takes 0 bytes fits (omega arith) ∙ ap (λ (n : ℕ). be64 n ++ drop 8 bytes) (sym size-is) in
    let all : bytes ≡ frame place body ++ rest =
    first
    ∙ ap (λ (x : List ℕ). be64 size ++ x) (second ∙ ap (λ (x : List ℕ). be64 (head_check place size) ++ x) tail)
    ∙ ap (λ (n : ℕ). be64 n ++ (be64 (head_check place n) ++ (body ++ (be64 (chained place body) ++ rest)))) (sym body-size)
    ∙ sym (head_first place body rest) in
    record { parts = all; is_body = record { some = omega (arith, body-size); fits = omega (arith, body-size, length-drop 16 bytes) } }

pub frame-takes : (place : Place) (bytes body rest : List ℕ) → IsBytes bytes → length bytes < 2 ^ 64 → frame_at place bytes ≡ done (body, rest) → Takes place bytes body rest
unfolding frame_at
frame-takes place bytes body rest fits small e =
    let size : ℕ = number_at 0 bytes in
    let check : ℕ = number_at 8 bytes in
    let after : List ℕ = drop 16 bytes in
    let head-fails : Bool = head_fails place size check in
    let digest-passes : Bool = eqb (number_at size after) (chained place (take size after)) in
    let read : Result (List ℕ × List ℕ) Stop = Ok (take size after, drop (size + 8) after) in
    let behind : Result (List ℕ × List ℕ) Stop = cond head-fails (Err BadHead) (body_at place size after) in
    let a = guard_ok (ltb (length bytes) 16) Torn (cond (are_zero bytes) (Err Torn) behind) (body, rest) e in
    let b = guard_ok (are_zero bytes) Torn behind (body, rest) a.1 in
    let c = guard_ok head-fails BadHead (body_at place size after) (body, rest) b.1 in
    let d = guard_ok (ltb (length after) (size + 8)) Torn (cond (not digest-passes) (Err BadDigest) read) (body, rest) c.1 in
    let f = guard_ok (not digest-passes) BadDigest read (body, rest) d.1 in
    let head = or_parts (eqb size 0) (not (eqb check (head_check place size))) c.0 in
    let some : 0 < size = positive size head.0 in
    let head-is : check ≡ head_check place size = eqb-true _ _ (not-false (eqb check (head_check place size)) head.1) in
    let digest-is : number_at size after ≡ chained place (take size after) = eqb-true _ _ (not-false digest-passes f.0) in
    subst (λ (p : List ℕ × List ℕ). Takes place bytes p.0 p.1) (ok_is (take size after, drop (size + 8) after) (body, rest) f.1)
    (takes_parts place bytes size check fits small (ltb-false _ _ a.0) (ltb-false _ _ d.0) refl refl some head-is digest-is)

-- what a reading function returned was framed
pub has_parts : (place : Place) (bytes : List ℕ) (r : Result Frame Stop) → IsBytes bytes → length bytes < 2 ^ 64 → Gives view r (frame_at place bytes)
    → IfOk r (λ found. bytes ≡ frame place found.body.now ++ found.rest.now)
has_parts place bytes (Ok found) fits whole e = (frame-takes place bytes found.body.now found.rest.now fits whole e).parts
has_parts place bytes (Err why) fits whole e = tt

pub has_body : (place : Place) (bytes : List ℕ) (r : Result Frame Stop) → IsBytes bytes → length bytes < 2 ^ 64 → Gives view r (frame_at place bytes)
    → IfOk r (λ found. IsBody found.body.now)
has_body place bytes (Ok found) fits whole e = (frame-takes place bytes found.body.now found.rest.now fits whole e).is_body
has_body place bytes (Err why) fits whole e = tt

pub has_end : (place : Place) (bytes : List ℕ) (r : Result Frame Stop) → IsBytes bytes → length bytes < 2 ^ 64 → Gives view r (frame_at place bytes)
    → IfOk r (λ found. found.next ≡ next place found.body.now) → IfOk r (λ found. found.next.at + length found.rest.now ≡ place.at + length bytes)
has_end place bytes (Ok found) fits small e after =
    let body : List ℕ = found.body.now in
    let rest : List ℕ = found.rest.now in
    let parts = (frame-takes place bytes body rest fits small e).parts in
    omega (arith, ap (λ (p : Place). p.at) after, ap length parts, length-append (frame place body) rest, length-frame place body)
has_end place bytes (Err why) fits small e after = tt

-- ---- the torn tail

-- no frame begins no bytes
pub nothing-torn : (place : Place) → frame_at place [] ≡ Err Torn
unfolding frame_at
nothing-torn place = refl

-- a cut in or before the first frame
cut_first : (place : Place) (body : List ℕ) (bodies : List (List ℕ)) (m : ℕ) → IsBody body → m < length (frame place body)
    → Splits place (take m (frames place (body ∷ bodies))) [] (take m (frames place (body ∷ bodies))) Torn
cut_first place body bodies m h lt =
    let start : take m (frames place (body ∷ bodies)) ≡ take m (frame place body) = take-append-le m (frame place body) (frames (next place body) bodies) (omega arith) in
    record { whole = refl; each = tt; stop = ap (frame_at place) start ∙ frame-torn place body m h lt }

-- one more frame before others
more_first : (place : Place) (body bytes : List ℕ) (bodies : List (List ℕ)) (rest : List ℕ) (why : Stop) → IsBody body → Splits (next place body) bytes bodies rest why
    → Splits place (frame place body ++ bytes) (body ∷ bodies) rest why
more_first place body bytes bodies rest why h s = record {
  whole = ap (λ (x : List ℕ). frame place body ++ x) s.whole ∙ sym (append_assoc (frame place body) (frames (next place body) bodies) rest);
  each = (h, s.each);
  stop = s.stop;
}

-- of no frames nothing is cut
cut_none : (m : ℕ) → take m (frames (record { at = 0; digest = 0 }) []) ≡ []
cut_none zero = refl
cut_none (suc m) = refl

-- a cut past the first frame
cut_later : (place : Place) (body : List ℕ) (bodies : List (List ℕ)) (m : ℕ) → IsBody body → 24 + length body ≤ m → CutsAtAFrame (next place body) bodies (m - (24 + length body))
    → Splits place (take m (frames place (body ∷ bodies))) (body ∷ take (whole_in (m - (24 + length body)) bodies) bodies)
    (drop (length (frames place (body ∷ take (whole_in (m - (24 + length body)) bodies) bodies))) (take m (frames place (body ∷ bodies)))) Torn
cut_later place body bodies m h le s =
    let first : List ℕ = frame place body in
    let after : Place = next place body in
    let k : ℕ = m - (24 + length body) in
    let got : List (List ℕ) = take (whole_in k bodies) bodies in
    let is : m ≡ length first + k = omega (arith, length-frame place body) in
    let start : take m (frames place (body ∷ bodies)) ≡ first ++ take k (frames after bodies) =
    ap (λ (x : ℕ). take x (first ++ frames after bodies)) is ∙ take-append-add first (frames after bodies) k in
    let size : length (frames place (body ∷ got)) ≡ length first + length (frames after got) = length-append first (frames after got) in
    let rest : drop (length (frames place (body ∷ got))) (take m (frames place (body ∷ bodies))) ≡ drop (length (frames after got)) (take k (frames after bodies)) =
    ap (λ (x : ℕ). drop x (take m (frames place (body ∷ bodies)))) size
    ∙ ap (drop (length first + length (frames after got))) start
    ∙ drop-append-add first (take k (frames after bodies)) (length (frames after got)) in
    rw (rest, start) (more_first place body (take k (frames after bodies)) got (drop (length (frames after got)) (take k (frames after bodies))) Torn h s)

pub cut : (place : Place) (bodies : List (List ℕ)) (m : ℕ) → AllByRecursion IsBody bodies → m ≤ length (frames place bodies) → CutsAtAFrame place bodies m
cut place [] m h le = rw (cut_none m) (record { whole = refl; each = tt; stop = nothing-torn place })
cut place (body ∷ bodies) m h le =
    elim (cases_lt m (24 + length body)) [
      | inl few ↦ rw (lt-leb (24 + length body) m few) (cut_first place body bodies m h.0 (omega (arith, length-frame place body)))
      | inr enough ↦
          let some : m - (24 + length body) ≤ length (frames (next place body) bodies) = omega (arith, length-frame place body, length-append (frame place body) (frames (next place body) bodies)) in
          rw (le-leb (24 + length body) m enough) (cut_later place body bodies m h.0 enough (cut (next place body) bodies (m - (24 + length body)) h.1 some))
    ]

-- ---- one reading

-- the first of some frames is read
pub first : (place : Place) (body : List ℕ) (bodies : List (List ℕ)) (rest : List ℕ) → IsBody body
    → frame_at place (frames place (body ∷ bodies) ++ rest) ≡ done (body, frames (next place body) bodies ++ rest)
first place body bodies rest h =
    ap (frame_at place) (append_assoc (frame place body) (frames (next place body) bodies) rest) ∙ frame-again place body (frames (next place body) bodies ++ rest) h

not_both : {A : Type 0} (x : A) (why : Stop) → done x ≡ Err why → ⊥
not_both x why e = absurd cc

error_is : {A : Type 0} (r : Result A Stop) (why other : Stop) → r ≡ Err why → r ≡ Err other → why ≡ other
error_is r why other e f = cc

pub once : (place : Place) (bodies others : List (List ℕ)) (rest after : List ℕ) (why other : Stop) → AllByRecursion IsBody bodies → AllByRecursion IsBody others
    → frame_at (place_after place bodies) rest ≡ Err why → frame_at (place_after place others) after ≡ Err other → frames place bodies ++ rest ≡ frames place others ++ after
    → (bodies ≡ others) × (rest ≡ after) × (why ≡ other)
once place [] [] rest after why other h k s t e = (refl, e, error_is (frame_at place rest) why other s (ap (frame_at place) e ∙ t))
once place (body ∷ bodies) [] rest after why other h k s t e =
    absurd (not_both (body, frames (next place body) bodies ++ rest) other (sym (first place body bodies rest h.0) ∙ ap (frame_at place) e ∙ t))
once place [] (one ∷ others) rest after why other h k s t e =
    absurd (not_both (one, frames (next place one) others ++ after) why (sym (first place one others after k.0) ∙ ap (frame_at place) (sym e) ∙ s))
once place (body ∷ bodies) (one ∷ others) rest after why other h k s t e =
    let same : (body, frames (next place body) bodies ++ rest) ≡ (one, frames (next place one) others ++ after) =
    ok_is (body, frames (next place body) bodies ++ rest) (one, frames (next place one) others ++ after) (sym (first place body bodies rest h.0) ∙ ap (frame_at place) e ∙ first place one others after k.0) in
    let heads : one ≡ body = ap (λ (p : List ℕ × List ℕ). p.0) (sym same) in
    let t' : frame_at (place_after (next place body) others) after ≡ Err other = ap (λ (b : List ℕ). frame_at (place_after (next place b) others) after) (sym heads) ∙ t in
    let e' : frames (next place body) bodies ++ rest ≡ frames (next place body) others ++ after = ap (λ (p : List ℕ × List ℕ). p.1) same ∙ ap (λ (b : List ℕ). frames (next place b) others ++ after) heads in
    let tails = once (next place body) bodies others rest after why other h.1 k.1 s t' e' in
    (rw (heads, tails.0) refl, tails.1, tails.2)

pub one_reading : (place : Place) (bytes : List ℕ) (bodies others : List (List ℕ)) (rest after : List ℕ) (why other : Stop)
    → Splits place bytes bodies rest why → Splits place bytes others after other → (bodies ≡ others) × (rest ≡ after) × (why ≡ other)
one_reading place bytes bodies others rest after why other s t = once place bodies others rest after why other s.each t.each s.stop t.stop (sym s.whole ∙ t.whole)

-- ---- frames one after another

pub frames-append : (place : Place) (bodies others : List (List ℕ)) → frames place (bodies ++ others) ≡ frames place bodies ++ frames (place_after place bodies) others
frames-append place [] others = refl
frames-append place (body ∷ bodies) others =
    ap (λ (x : List ℕ). frame place body ++ x) (frames-append (next place body) bodies others)
    ∙ sym (append_assoc (frame place body) (frames (next place body) bodies) (frames (place_after (next place body) bodies) others))

pub place_after-append : (place : Place) (bodies others : List (List ℕ)) → place_after place (bodies ++ others) ≡ place_after (place_after place bodies) others
place_after-append place [] others = refl
place_after-append place (body ∷ bodies) others = place_after-append (next place body) bodies others

pub at-counts : (place : Place) (bodies : List (List ℕ)) → (place_after place bodies).at ≡ place.at + length (frames place bodies)
at-counts place [] = omega arith
at-counts place (body ∷ bodies) =
    omega (arith, at-counts (next place body) bodies, length-append (frame place body) (frames (next place body) bodies), length-frame place body)

-- ---- writing

-- four parts that were appended one by one
pub four : (start x0 x1 x2 x3 x4 a b c d : List ℕ) → x0 ≡ start → x1 ≡ x0 ++ a → x2 ≡ x1 ++ b → x3 ≡ x2 ++ c → x4 ≡ x3 ++ d → x4 ≡ start ++ (a ++ (b ++ (c ++ d)))
four start x0 x1 x2 x3 x4 a b c d e0 e1 e2 e3 e4 =
    e4
    ∙ ap (λ (x : List ℕ). x ++ d) (e3 ∙ ap (λ (x : List ℕ). x ++ c) (e2 ∙ ap (λ (x : List ℕ). x ++ b) (e1 ∙ ap (λ (x : List ℕ). x ++ a) e0)))
    ∙ append_assoc (start ++ a ++ b) c d
    ∙ append_assoc (start ++ a) b (c ++ d)
    ∙ append_assoc start a (b ++ (c ++ d))
