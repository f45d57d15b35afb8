-- Samples there and back.
use Rattle.std.specs.Prelude.{Option, Some, None}
use mathlib.Core.Path.{◌≡◌, refl, sym, ap, ◌∙◌}
use mathlib.Core.List.{List, ◌++◌}
use mathlib.Core.Logic.{inl, inr}
use Prim.Native.Nat.{ℕ, zero, suc, ◌+◌, ◌^◌, ◌<◌, ◌≤◌}
use native.Mathlib.Nat.{eq-or-lt_of_le}
use native.Mathlib.Omega.{arith}
use lib.Dec.{eqb}
use lib.ListN.{length, take, drop, length-append}
use lib.Seq.{take-add}
use lib.Ieee.{binary32, of_bits}
use lib.Ieee.Bits.{to_bits-lt}
use borrow.Author.Tests.{eqb-true}
use Rattle.answers.specs.Pick.{pick_case}
use Rattle.recording_shorts.specs.Shorts.{short_sample, quotient_bits, short_among, short_of}
use Rattle.recording_shorts.proofs.Laws.{short_fits, read_back}
use Rattle.recording_shorts.proofs.Finding.{found}
use Rattle.recording.specs.Bytes.{number_at, bytes}
use Rattle.recording.specs.Samples.{width, bytes_of, sample_of}
use Rattle.recording.specs.declared.Form.{Form}
use Rattle.recording.proofs.Forms.{bytes_mono}
use Rattle.recording_convert.specs.Converting.{form_from, form_to, back, Sample, Stored, Strange, of_short, sample_to, bits_at, stored_bytes, stored, Found, Nowhere, Behind, one_later, or_later, first_strange}
use Rattle.recording_convert.specs.Inputs.{AreBytes}
use Rattle.recording_convert.specs.declared.Direction.{Direction}
use Rattle.recording_convert.specs.declared.Direction.TheVariants.{ToFloats, ToShorts}
use Rattle.recording_convert.proofs.Numbers.{number_within, bytes_length, number_written, number_below, bytes_again}

-- ---- one sample

among_is : (count bits n : ℕ) → short_among count bits ≡ Some n → (quotient_bits n ≡ bits) × (n < count)
unfolding short_among
among_is zero bits n = λ e. let z : ◌≡◌ {A = ℕ} 0 1 = cc in absurd (omega (arith, z))
among_is (suc k) bits n =
    pick_case (λ (x : Option ℕ). x ≡ Some n → (quotient_bits n ≡ bits) × (n < suc k)) (eqb (quotient_bits k) bits) _ _
    (λ t q. let same : k ≡ n = cc in (ap quotient_bits (sym same) ∙ eqb-true (quotient_bits k) bits t, omega (arith, same)))
    (λ t q. let w = among_is k bits n q in (w.0, omega (arith, w.1)))

pub short_is : (bits n : ℕ) → short_of bits ≡ Some n → (quotient_bits n ≡ bits) × (n < 65536)
unfolding short_of
short_is bits n e = among_is 65536 bits n e

quotient_below : (n : ℕ) → quotient_bits n < 256 ^ 4
unfolding quotient_bits
quotient_below n = to_bits-lt binary32 (short_sample n) (short_fits n)

abbrev Back : Direction → ℕ → ℕ → Type 0
Back d x y = (sample_to (back d) y ≡ Stored x) × (y < 256 ^ width (form_to d)) × (sample_of (form_to d) y ≡ sample_of (form_from d) x)

-- a converted sample comes back, fits, and means the same
pub sample_back : (d : Direction) (x y : ℕ) → x < 256 ^ width (form_from d) → sample_to d x ≡ Stored y → Back d x y
sample_back ToFloats x y h e =
    let q : quotient_bits x ≡ y = cc in
    (ap (λ (k : ℕ). of_short (short_of k)) (sym q) ∙ ap of_short (found x (quotient_bits x) h refl), rw q at (quotient_below x), ap (of_bits binary32) (sym q) ∙ read_back x)
sample_back ToShorts x y h e = go (short_of x) refl e
  where
    go : (o : Option ℕ) → short_of x ≡ o → of_short o ≡ Stored y → Back ToShorts x y
    go (Some n) q e =
        let same : n ≡ y = cc in
        let w = short_is x n q in
        let is : quotient_bits y ≡ x = ap quotient_bits (sym same) ∙ w.0 in
        (ap Stored is, omega (arith, same, w.1), sym (ap (of_bits binary32) (sym is) ∙ read_back y))
    go None q e = let z : ◌≡◌ {A = ℕ} 0 1 = cc in absurd (omega (arith, z))

-- ---- samples of which none is strange

abbrev pub Fine : Direction → List ℕ → ℕ → ℕ → Type 0
Fine d s k n = (j : ℕ) → j < n → (y : ℕ) × (sample_to d (bits_at (form_from d) s (k + j)) ≡ Stored y)

none_later : (f : Found) → one_later f ≡ Nowhere → f ≡ Nowhere
none_later Nowhere e = refl
none_later (Behind others) e = let z : ◌≡◌ {A = ℕ} 0 1 = cc in absurd (omega (arith, z))

fine_step : (d : Direction) (s : List ℕ) (k n : ℕ) (x : Sample) (later : Found) → (later ≡ Nowhere → Fine d s (k + 1) n) → sample_to d (bits_at (form_from d) s k) ≡ x → or_later x later ≡ Nowhere → Fine d s k (suc n)
fine_step d s k n Strange later again e q j h = let z : ◌≡◌ {A = ℕ} 0 1 = cc in absurd (omega (arith, z))
fine_step d s k n (Stored y) later again e q zero h = let z : k + zero ≡ k = omega arith in (y, ap (λ (i : ℕ). sample_to d (bits_at (form_from d) s i)) z ∙ e)
fine_step d s k n (Stored y) later again e q (suc i) h =
    let w = again (none_later later q) i (omega (arith, h)) in
    let z : k + suc i ≡ k + 1 + i = omega arith in
    (w.0, ap (λ (i : ℕ). sample_to d (bits_at (form_from d) s i)) z ∙ w.1)

pub fine_of : (d : Direction) (s : List ℕ) (k n : ℕ) → first_strange d s k n ≡ Nowhere → Fine d s k n
unfolding first_strange
fine_of d s k zero q = λ j h. absurd (omega (arith, h))
fine_of d s k (suc n) q = fine_step d s k n (sample_to d (bits_at (form_from d) s k)) (first_strange d s (k + 1) n) (fine_of d s (k + 1) n) refl q

pub none_strange : (d : Direction) (s : List ℕ) (k n : ℕ) → Fine d s k n → first_strange d s k n ≡ Nowhere
unfolding first_strange
none_strange d s k zero f = refl
none_strange d s k (suc n) f =
    let w = f 0 (omega arith) in
    let z : k ≡ k + 0 = omega arith in
    let later : Fine d s (k + 1) n = λ j h. let v = f (suc j) (omega (arith, h)) in let i : k + 1 + j ≡ k + suc j = omega arith in (v.0, ap (λ (i : ℕ). sample_to d (bits_at (form_from d) s i)) i ∙ v.1) in
    ap (λ (x : Sample). or_later x (first_strange d s (k + 1) n)) (ap (λ (i : ℕ). sample_to d (bits_at (form_from d) s i)) z ∙ w.1)
    ∙ ap one_later (none_strange d s (k + 1) n later)

-- ---- the bytes of converted samples

module _ (d : Direction) (s : List ℕ) where
  abbrev F : ℕ → Type 0
  F n = Fine d s 0 n

  fewer : (n : ℕ) → F (suc n) → F n
  fewer n f = λ j h. f j (omega (arith, h))

  last : (n : ℕ) → F (suc n) → (y : ℕ) × (sample_to d (bits_at (form_from d) s n) ≡ Stored y)
  last n f = let w = f n (omega arith) in let z : n ≡ 0 + n = omega arith in (w.0, ap (λ (i : ℕ). sample_to d (bits_at (form_from d) s i)) z ∙ w.1)

  one_more : (n y : ℕ) → sample_to d (bits_at (form_from d) s n) ≡ Stored y → stored d s (suc n) ≡ stored d s n ++ bytes (width (form_to d)) y
  unfolding stored
  one_more n y e = ap (λ (x : Sample). stored d s n ++ stored_bytes (form_to d) x) e

  pub stored_length : (n : ℕ) → F n → length (stored d s n) ≡ bytes_of (form_to d) n
  unfolding stored
  stored_length zero f = omega arith
  stored_length (suc n) f =
      let w = last n f in
      ap length (one_more n w.0 w.1) ∙ omega (arith, length-append (stored d s n) (bytes (width (form_to d)) w.0), bytes_length (width (form_to d)) w.0, stored_length n (fewer n f))

  module _ (b : AreBytes s) where
    pub below : (k n : ℕ) → k < n → bytes_of (form_from d) n ≤ length s → bits_at (form_from d) s k < 256 ^ width (form_from d)
    below k n h m = number_below s b (width (form_from d)) (bytes_of (form_from d) k) (omega (arith, m, bytes_mono (form_from d) (k + 1) n (omega (arith, h))))

    -- what is stored is read back
    pub stored_reads : (n : ℕ) → F n → bytes_of (form_from d) n ≤ length s → (k y : ℕ) → k < n → sample_to d (bits_at (form_from d) s k) ≡ Stored y → bits_at (form_to d) (stored d s n) k ≡ y
    stored_reads zero f m k y h e = absurd (omega (arith, h))
    stored_reads (suc n) f m k y h e =
        let w = last n f in
        let S = stored d s n in
        let ws = width (form_to d) in
        let long : length S ≡ bytes_of (form_to d) n = stored_length n (fewer n f) in
        let here : bits_at (form_to d) (stored d s (suc n)) k ≡ number_at ws (S ++ bytes ws w.0) (bytes_of (form_to d) k) = ap (λ (t : List ℕ). number_at ws t (bytes_of (form_to d) k)) (one_more n w.0 w.1) in
        elim (eq-or-lt_of_le h) [
          | inl q ↦
              let same : k ≡ n = omega (arith, q) in
              let back-to-y : Stored w.0 ≡ Stored y = sym w.1 ∙ ap (λ (i : ℕ). sample_to d (bits_at (form_from d) s i)) (sym same) ∙ e in
              let y-is : w.0 ≡ y = cc in
              here
              ∙ ap (λ (i : ℕ). number_at ws (S ++ bytes ws w.0) (bytes_of (form_to d) i)) same
              ∙ ap (number_at ws (S ++ bytes ws w.0)) (sym long)
              ∙ number_written ws w.0 S (sample_back d (bits_at (form_from d) s n) w.0 (below n (suc n) (omega arith) m) w.1).1
              ∙ y-is
          | inr l ↦
              here
              ∙ number_within ws S (bytes ws w.0) (bytes_of (form_to d) k) (omega (arith, long, bytes_mono (form_to d) (k + 1) n (omega (arith, l))))
              ∙ stored_reads n (fewer n f) (omega (arith, m)) k y (omega (arith, l)) e
        ]

    -- ---- and again

    back_from : (c : Direction) → form_from (back c) ≡ form_to c
    back_from ToFloats = refl
    back_from ToShorts = refl

    back_to : (c : Direction) → form_to (back c) ≡ form_from c
    back_to ToFloats = refl
    back_to ToShorts = refl

    within : (c : Direction) (a rest : List ℕ) (n : ℕ) → bytes_of (form_from c) n ≤ length a → stored c (a ++ rest) n ≡ stored c a n
    unfolding stored
    within c a rest zero h = refl
    within c a rest (suc n) h = rw (within c a rest n (omega (arith, h)), number_within (width (form_from c)) a rest (bytes_of (form_from c) n) (omega (arith, h)))

    -- converted there and back, samples have the bytes that they had
    pub stored_again : (n : ℕ) → F n → bytes_of (form_from d) n ≤ length s → stored (back d) (stored d s n) n ≡ take (bytes_of (form_from d) n) s
    unfolding stored
    stored_again zero f m = let z : bytes_of (form_from d) 0 ≡ 0 = omega arith in ap (λ (k : ℕ). take k s) (sym z)
    stored_again (suc n) f m =
        let w = last n f in
        let x = bits_at (form_from d) s n in
        let S = stored d s n in
        let T = stored d s (suc n) in
        let wd = width (form_from d) in
        let at = bytes_of (form_from d) n in
        let long : length S ≡ bytes_of (form_to d) n = stored_length n (fewer n f) in
        let room : bytes_of (form_from (back d)) n ≤ length S = rw (back_from d) (omega (arith, long)) in
        let front : stored (back d) T n ≡ take at s = ap (λ (t : List ℕ). stored (back d) t n) (one_more n w.0 w.1) ∙ within (back d) S (bytes (width (form_to d)) w.0) n room ∙ stored_again n (fewer n f) (omega (arith, m)) in
        let bits : bits_at (form_from (back d)) T n ≡ w.0 = ap (λ (g : Form). bits_at g T n) (back_from d) ∙ stored_reads (suc n) f m n w.0 (omega arith) w.1 in
        let returns : sample_to (back d) w.0 ≡ Stored x = (sample_back d x w.0 (below n (suc n) (omega arith) m) w.1).0 in
        let end : stored_bytes (form_to (back d)) (sample_to (back d) (bits_at (form_from (back d)) T n)) ≡ take wd (drop at s) =
        ap (λ (k : ℕ). stored_bytes (form_to (back d)) (sample_to (back d) k)) bits
        ∙ ap (stored_bytes (form_to (back d))) returns
        ∙ ap (λ (g : Form). bytes (width g) x) (back_to d)
        ∙ bytes_again s b wd at (omega (arith, m)) in
        let all : at + wd ≡ bytes_of (form_from d) (suc n) = omega arith in
        ap (λ (t : List ℕ). t ++ stored_bytes (form_to (back d)) (sample_to (back d) (bits_at (form_from (back d)) T n))) front
        ∙ ap (λ (t : List ℕ). take at s ++ t) end
        ∙ sym (take-add at wd s)
        ∙ ap (λ (k : ℕ). take k s) all
