-- Numbers and their bytes: read back, and written again.
use mathlib.Core.Path.{◌≡◌, refl, sym, ap, ◌∙◌}
use mathlib.Core.List.{List, ◌∷◌, ◌++◌}
use Prim.Native.Nat.{ℕ, zero, suc, ◌+◌, ◌*◌, ◌/◌, ◌%◌, ◌^◌, ◌<◌, ◌≤◌}
use native.Mathlib.Nat.{div-lt_iff_lt-mul, pow-succ'}
use native.Mathlib.Numerals.{add-one}
use native.Mathlib.Omega.{arith}
use lib.ListN.{length, take, drop, get_or, length-drop}
use lib.Seq.{drop-cons, take_all, take-append-le, drop-append-le, drop-append-add}
use Rattle.recording.specs.Bytes.{number, number_at, bytes}
use Rattle.recording_convert.specs.Inputs.{AreBytes}

number_cons : (n : ℕ) (s : List ℕ) (at : ℕ) → at < length s → number_at (suc n) s at ≡ get_or s at 0 + 256 * number_at n s (at + 1)
unfolding number_at
number_cons n s at h = rw (add-one, drop-cons s at 0)

number_none : (s : List ℕ) (at : ℕ) → number_at 0 s at ≡ 0
unfolding number_at
number_none s at = refl

number_back : (n v : ℕ) → v < 256 ^ n → number (bytes n v) ≡ v
number_back zero v h = omega arith
number_back (suc n) v h =
    let e = number_back n (v / 256) ((div-lt_iff_lt-mul (omega arith)).1 (omega (arith, pow-succ' 256 n))) in
    omega (arith, e)

-- a number is read from its own bytes alone
pub number_within : (n : ℕ) (s rest : List ℕ) (at : ℕ) → at + n ≤ length s → number_at n (s ++ rest) at ≡ number_at n s at
unfolding number_at
number_within n s rest at h =
    let d : n ≤ length (drop at s) = simp length-drop (omega arith) in
    rw (drop-append-le at s rest (omega arith), take-append-le n (drop at s) rest d)

pub bytes_length : (n v : ℕ) → length (bytes n v) ≡ n
bytes_length zero v = refl
bytes_length (suc n) v = ap suc (bytes_length n (v / 256))

-- a number that was written is read back
pub number_written : (n v : ℕ) (earlier : List ℕ) → v < 256 ^ n → number_at n (earlier ++ bytes n v) (length earlier) ≡ v
unfolding number_at
number_written n v earlier h =
    let at : length earlier ≡ length earlier + 0 = omega arith in
    ap (λ (k : ℕ). number (take n (drop k (earlier ++ bytes n v)))) at
    ∙ ap (λ (t : List ℕ). number (take n t)) (drop-append-add earlier (bytes n v) 0)
    ∙ ap number (take_all n (bytes n v) (omega (arith, bytes_length n v)))
    ∙ number_back n v h

module _ (s : List ℕ) (b : AreBytes s) where
  pub number_below : (n at : ℕ) → at + n ≤ length s → number_at n s at < 256 ^ n
  number_below zero at h = rw (number_none s at) (omega arith)
  number_below (suc n) at h =
      let e = number_cons n s at (omega arith) in
      omega (arith, e, b.each at, number_below n (at + 1) (omega arith), pow-succ' 256 n)

  -- what was read is written again
  pub bytes_again : (n at : ℕ) → at + n ≤ length s → bytes n (number_at n s at) ≡ take n (drop at s)
  bytes_again zero at h = refl
  bytes_again (suc n) at h =
      let x = get_or s at 0 in
      let y = number_at n s (at + 1) in
      let e = number_cons n s at (omega arith) in
      let low : number_at (suc n) s at % 256 ≡ x = omega (arith, e, b.each at) in
      let high : number_at (suc n) s at / 256 ≡ y = omega (arith, e, b.each at) in
      let one : drop at s ≡ x ∷ drop (at + 1) s = drop-cons s at 0 (omega arith) ∙ ap (λ (k : ℕ). x ∷ drop k s) (sym (add-one at)) in
      ap (λ (k : ℕ). k ∷ bytes n (number_at (suc n) s at / 256)) low
      ∙ ap (λ (k : ℕ). x ∷ bytes n k) high
      ∙ ap (λ (t : List ℕ). x ∷ t) (bytes_again n (at + 1) (omega arith))
      ∙ ap (take (suc n)) (sym one)
