-- Samples found fine, and written one behind the other.
use mathlib.Core.Path.{◌≡◌, refl, sym, ap, ◌∙◌}
use mathlib.Core.Bool.{Bool, true, false, true≢false, false≢true}
use mathlib.Core.List.{List, ◌++◌}
use mathlib.Core.Logic.{inl, inr}
use Prim.Native.Nat.{ℕ, zero, suc, ◌+◌, ◌-◌, ◌*◌, ◌/◌, ◌%◌, ◌<◌, ◌≤◌}
use native.Mathlib.Nat.{eq-or-lt_of_le}
use native.Mathlib.Omega.{arith}
use lib.Dec.{ltb, leb}
use lib.ListN.{length, drop, set, length-append, length-drop}
use lib.Seq.{sets, sets-eq, take_at, drop-append-add, drop-drop}
use borrow.Author.Tests.{lt-ltb, ltb-true, le-ltb, le-leb, lt-leb}
use Rattle.answers.specs.Pick.{pick, both, pick_true, pick_false, pick_all}
use Rattle.answers.proofs.Passed.{both_true}
use Rattle.recording.specs.Bytes.{bytes}
use Rattle.recording.specs.Samples.{width, bytes_of}
use Rattle.recording.specs.declared.Header.{Header}
use Rattle.recording.proofs.Forms.{bytes_mono}
use Rattle.recording_convert.specs.Converting.{form_from, form_to, Sample, Stored, Strange, sample_to, bits_at, stored_bytes, stored, Nowhere, Behind, one_later, or_later, first_strange}
use Rattle.recording_convert.specs.declared.Direction.{Direction}
use Rattle.recording_convert.specs.declared.Direction.TheVariants.{ToFloats, ToShorts}
use Rattle.recording_convert.proofs.Numbers.{bytes_length}
use Rattle.recording_convert.proofs.Samples.{Fine, fine_of, none_strange, stored_length}
use Rattle.recording_store.specs.Steps.{code_of, is_fine, bits_in, code_at, found_at, field_bytes}
use Rattle.recording_store.specs.Storing.{fits, told, storing, or_none, stored_into, header_stored, headed_into}
use Rattle.recording_store.specs.declared.Unstored.{Unstored}
use Rattle.recording_store.specs.declared.Unstored.TheVariants.{NoRoom, StrangeAt}
use Rattle.std.specs.Prelude.{Result, Ok, Err}

-- ---- which samples are fine

fine_sample : (x : Sample) → is_fine (code_of x) ≡ true → (y : ℕ) × (x ≡ Stored y)
fine_sample (Stored y) e = (y, refl)
fine_sample Strange e = absurd (false≢true e)

strange_sample : (x : Sample) → is_fine (code_of x) ≡ false → x ≡ Strange
strange_sample (Stored y) e = absurd (true≢false e)
strange_sample Strange e = refl

-- the loop's test
pub strange_here : (i n : ℕ) (x : Bool) → x ≡ false → both (ltb i n) x ≡ false
strange_here i n x e = pick_all (λ (t : Bool). t ≡ false) (ltb i n) x false e refl

module _ (d : Direction) (s : List ℕ) where
  abbrev At : ℕ → Sample
  At i = sample_to d (bits_at (form_from d) s i)

  -- none before the first
  pub fine_none : Fine d s 0 0
  fine_none j h = absurd (omega (arith, h))

  pub fine_more : (i : ℕ) → Fine d s 0 i → is_fine (code_at d s i) ≡ true → Fine d s 0 (i + 1)
  fine_more i f e j h =
      elim (eq-or-lt_of_le h) [
        | inl q ↦ let same : 0 + j ≡ i = omega (arith, q) in let w = fine_sample (At i) e in (w.0, ap At same ∙ w.1)
        | inr l ↦ f j (omega (arith, l))
      ]

  -- a strange one behind i fine ones, from number k on
  first_strange_lem : (n k i : ℕ) → i < n → ((j : ℕ) → j < i → (y : ℕ) × (At (k + j) ≡ Stored y)) → At (k + i) ≡ Strange → first_strange d s k n ≡ Behind i
  unfolding first_strange
  first_strange_lem zero k i h f e = absurd (omega (arith, h))
  first_strange_lem (suc n) k zero h f e =
      let z : k ≡ k + zero = omega arith in
      ap (λ (x : Sample). or_later x (first_strange d s (k + 1) n)) (ap At z ∙ e)
  first_strange_lem (suc n) k (suc i) h f e =
      let w = f 0 (omega arith) in
      let z : k ≡ k + 0 = omega arith in
      let at : k + 1 + i ≡ k + suc i = omega arith in
      let one : i + 1 ≡ suc i = omega arith in
      ap (λ (x : Sample). or_later x (first_strange d s (k + 1) n)) (ap At z ∙ w.1)
      ∙ ap one_later (first_strange_lem n (k + 1) i (omega (arith, h)) (λ j l. let v = f (suc j) (omega (arith, l)) in let q : k + 1 + j ≡ k + suc j = omega arith in (v.0, ap At q ∙ v.1)) (ap At at ∙ e))
      ∙ ap Behind one

  -- what the loop found
  pub found_at_lem : (n i : ℕ) → i ≤ n → Fine d s 0 i → both (ltb i n) (is_fine (code_at d s i)) ≡ false → first_strange d s 0 n ≡ found_at n i
  unfolding pick
  found_at_lem n i h f e =
      elim (eq-or-lt_of_le h) [
        | inl q ↦ ap (first_strange d s 0) (sym q) ∙ none_strange d s 0 i f ∙ sym (pick_false (ltb i n) (Behind i) Nowhere (le-ltb i n (omega (arith, q))))
        | inr l ↦
            let here : is_fine (code_at d s i) ≡ false = sym (pick_true (ltb i n) (is_fine (code_at d s i)) false (lt-ltb i n l)) ∙ e in
            let z : i ≡ 0 + i = omega arith in
            first_strange_lem n 0 i l f (ap At (sym z) ∙ strange_sample (At i) here) ∙ sym (pick_true (ltb i n) (Behind i) Nowhere (lt-ltb i n l))
      ]

-- ---- bytes written one behind the other

pub put_none : (out : List ℕ) (at w number : ℕ) → sets out (at + 0) (bytes (w - 0) number) ≡ sets out at (bytes w number)
put_none out at w number =
    let a : at + 0 ≡ at = omega arith in
    let b : w - 0 ≡ w = omega arith in
    ap (λ (k : ℕ). sets out k (bytes (w - 0) number)) a ∙ ap (λ (k : ℕ). sets out at (bytes k number)) b

pub put_more : (out : List ℕ) (at i w rest : ℕ) → i < w → sets out (at + i) (bytes (w - i) rest) ≡ sets (set out (at + i) (rest % 256)) (at + (i + 1)) (bytes (w - (i + 1)) (rest / 256))
put_more out at i w rest h =
    let a : w - i ≡ suc (w - (i + 1)) = omega (arith, h) in
    let b : suc (at + i) ≡ at + (i + 1) = omega arith in
    ap (λ (k : ℕ). sets out (at + i) (bytes k rest)) a ∙ ap (λ (k : ℕ). sets (set out (at + i) (rest % 256)) k (bytes (w - (i + 1)) (rest / 256))) b

pub put_all : (out : List ℕ) (at i w rest : ℕ) → w ≤ i → sets out (at + i) (bytes (w - i) rest) ≡ out
put_all out at i w rest h = let a : w - i ≡ 0 = omega (arith, h) in ap (λ (k : ℕ). sets out (at + i) (bytes k rest)) a

-- behind a front of known length
behind_front : (front rest vs : List ℕ) (at : ℕ) → length front ≡ at → length vs ≤ length rest → sets (front ++ rest) at vs ≡ (front ++ vs) ++ drop (length vs) rest
behind_front front rest vs at e h =
    sets-eq vs (front ++ rest) at (omega (arith, e, h, length-append front rest))
    ∙ ap (λ (l : List ℕ). (l ++ vs) ++ drop (at + length vs) (front ++ rest)) (take_at front rest at e)
    ∙ ap (λ (k : ℕ). (front ++ vs) ++ drop (k + length vs) (front ++ rest)) (sym e)
    ∙ ap (λ (l : List ℕ). (front ++ vs) ++ l) (drop-append-add front rest (length vs))

module _ (d : Direction) (s out₀ : List ℕ) (n : ℕ) (none : first_strange d s 0 n ≡ Nowhere) (room : bytes_of (form_to d) n ≤ length out₀) where
  abbrev wide : ℕ
  wide = width (form_to d)

  fine_to : (i : ℕ) → i ≤ n → Fine d s 0 i
  fine_to i h = λ j l. fine_of d s 0 n none j (omega (arith, h, l))

  -- one more sample
  pub store_more : (i : ℕ) → i < n → (out : List ℕ) → out ≡ stored d s i ++ drop (bytes_of (form_to d) i) out₀
      → sets out (wide * i) (bytes wide (bits_in (code_at d s i))) ≡ stored d s (i + 1) ++ drop (bytes_of (form_to d) (i + 1)) out₀
  unfolding stored
  store_more i h out e =
      let w = fine_of d s 0 n none i h in
      let z : i ≡ 0 + i = omega arith in
      let here : sample_to d (bits_at (form_from d) s i) ≡ Stored w.0 = ap (λ (k : ℕ). sample_to d (bits_at (form_from d) s k)) z ∙ w.1 in
      let S = stored d s i in
      let B = bytes wide w.0 in
      let long : length S ≡ wide * i = stored_length d s i (fine_to i (omega (arith, h))) in
      let more : bytes_of (form_to d) (i + 1) ≤ bytes_of (form_to d) n = bytes_mono (form_to d) (i + 1) n (omega (arith, h)) in
      let fits : length B ≤ length (drop (wide * i) out₀) = omega (arith, bytes_length wide w.0, length-drop (wide * i) out₀, more, room) in
      let one : suc i ≡ i + 1 = omega arith in
      let ends : wide * i + wide ≡ bytes_of (form_to d) (i + 1) = omega arith in
      ap (λ (x : Sample). sets out (wide * i) (bytes wide (bits_in (code_of x)))) here
      ∙ ap (λ (l : List ℕ). sets l (wide * i) B) e
      ∙ behind_front S (drop (wide * i) out₀) B (wide * i) long fits
      ∙ ap (λ (k : ℕ). (S ++ B) ++ drop k (drop (wide * i) out₀)) (bytes_length wide w.0)
      ∙ ap (λ (l : List ℕ). (S ++ B) ++ l) (drop-drop wide (wide * i) out₀ ∙ ap (λ (k : ℕ). drop k out₀) ends)
      ∙ ap (λ (x : Sample). (S ++ stored_bytes (form_to d) x) ++ drop (bytes_of (form_to d) (i + 1)) out₀) (sym here)
      ∙ ap (λ (k : ℕ). stored d s k ++ drop (bytes_of (form_to d) (i + 1)) out₀) one

  -- none yet
  pub store_none : out₀ ≡ stored d s 0 ++ drop (bytes_of (form_to d) 0) out₀
  unfolding stored
  store_none = let z : 0 ≡ bytes_of (form_to d) 0 = omega arith in ap (λ (k : ℕ). drop k out₀) z

  pub store_length : (i : ℕ) → i ≤ n → (out : List ℕ) → out ≡ stored d s i ++ drop (bytes_of (form_to d) i) out₀ → length out ≡ length out₀
  store_length i h out e =
      let long : length (stored d s i) ≡ bytes_of (form_to d) i = stored_length d s i (fine_to i h) in
      let most : bytes_of (form_to d) i ≤ bytes_of (form_to d) n = bytes_mono (form_to d) i n h in
      ap length e ∙ omega (arith, length-append (stored d s i) (drop (bytes_of (form_to d) i) out₀), length-drop (bytes_of (form_to d) i) out₀, long, most, room)

-- ---- what is answered

module _ (d : Direction) (s : List ℕ) (n : ℕ) (out : List ℕ) where
  abbrev Refuses : Result ℕ Unstored → Type 0
  Refuses answer = (answer ≡ storing d s n out) × (out ≡ stored_into d s n out)

  unfit : fits d s n out ≡ false → Refuses (Err NoRoom)
  unfolding storing stored_into
  unfit e = (sym (pick_false (fits d s n out) _ (Err NoRoom) e), sym (pick_false (fits d s n out) _ out e))

  pub few_bytes : length s < bytes_of (form_from d) n → Refuses (Err NoRoom)
  few_bytes h = unfit (pick_false _ _ false (lt-leb (bytes_of (form_from d) n) (length s) h))

  pub no_room : length out < bytes_of (form_to d) n → Refuses (Err NoRoom)
  unfolding pick
  no_room h = unfit (go (leb (bytes_of (form_from d) n) (length s)))
    where
      none : leb (bytes_of (form_to d) n) (length out) ≡ false
      none = lt-leb (bytes_of (form_to d) n) (length out) h

      go : (t : Bool) → both t (leb (bytes_of (form_to d) n) (length out)) ≡ false
      go true = none
      go false = refl

  pub none_found : (r : ℕ) → n ≤ r → first_strange d s 0 n ≡ found_at n r → first_strange d s 0 n ≡ Nowhere
  none_found r h e = e ∙ pick_false (ltb r n) (Behind r) Nowhere (le-ltb r n h)

  module _ (there : bytes_of (form_from d) n ≤ length s) (room : bytes_of (form_to d) n ≤ length out) where
    fit : fits d s n out ≡ true
    fit = pick_true (leb (bytes_of (form_from d) n) (length s)) _ false (le-leb (bytes_of (form_from d) n) (length s) there) ∙ le-leb (bytes_of (form_to d) n) (length out) room

    pub strange_told : (r : ℕ) → r < n → first_strange d s 0 n ≡ found_at n r → Refuses (Err (StrangeAt r))
    unfolding storing stored_into
    strange_told r h e =
        let found : first_strange d s 0 n ≡ Behind r = e ∙ pick_true (ltb r n) (Behind r) Nowhere (lt-ltb r n h) in
        (sym (pick_true (fits d s n out) _ (Err NoRoom) fit ∙ ap (told d n) found), sym (pick_true (fits d s n out) _ out fit ∙ ap (or_none d s n out) found))

    pub all_told : first_strange d s 0 n ≡ Nowhere → (out' : List ℕ) → out' ≡ stored d s n ++ drop (bytes_of (form_to d) n) out → (Ok (bytes_of (form_to d) n) ≡ storing d s n out) × (out' ≡ stored_into d s n out)
    unfolding storing stored_into
    all_told none out' e =
        (sym (pick_true (fits d s n out) _ (Err NoRoom) fit ∙ ap (told d n) none), e ∙ sym (pick_true (fits d s n out) _ out fit ∙ ap (or_none d s n out) none))

-- ---- the header

pub no_header : (d : Direction) (h : Header) (out : List ℕ) → length out < 28 → (0 ≡ header_stored d out) × (out ≡ headed_into d h out)
unfolding header_stored headed_into
no_header d h out l =
    let none : leb 28 (length out) ≡ false = lt-leb 28 (length out) l in
    (sym (pick_false (leb 28 (length out)) _ _ none), sym (pick_false (leb 28 (length out)) _ _ none))

pub header_plain : (h : Header) (out out' : List ℕ) → 28 ≤ length out → out' ≡ sets out 0 (field_bytes h 24) → (24 ≡ header_stored ToFloats out) × (out' ≡ headed_into ToFloats h out)
unfolding header_stored headed_into
header_plain h out out' l e =
    let there : leb 28 (length out) ≡ true = le-leb 28 (length out) l in
    (sym (pick_true (leb 28 (length out)) _ _ there), e ∙ sets-eq (field_bytes h 24) out 0 (omega (arith, l)) ∙ sym (pick_true (leb 28 (length out)) _ _ there))

pub header_shorts : (h : Header) (out out' : List ℕ) → 28 ≤ length out → out' ≡ sets (sets out 0 (field_bytes h 28)) 24 (bytes 4 2) → (28 ≡ header_stored ToShorts out) × (out' ≡ headed_into ToShorts h out)
unfolding header_stored headed_into
header_shorts h out out' l e =
    let there : leb 28 (length out) ≡ true = le-leb 28 (length out) l in
    (sym (pick_true (leb 28 (length out)) _ _ there), e ∙ sets-eq (field_bytes h 28 ++ bytes 4 2) out 0 (omega (arith, l)) ∙ sym (pick_true (leb 28 (length out)) _ _ there))
