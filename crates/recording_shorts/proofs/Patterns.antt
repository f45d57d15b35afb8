-- The pattern of a quotient, by the number's digits, and the number from the pattern.
use mathlib.Core.Path.{◌≡◌, refl, sym, ap, ◌∙◌}
use mathlib.Core.Bool.{Bool, cond}
use Prim.Native.Nat.{ℕ, zero, suc, ◌+◌, ◌-◌, ◌*◌, ◌/◌, ◌%◌, ◌^◌, ◌<◌, ◌≤◌}
use native.Mathlib.Nat.{mul_assoc, mul_right_comm, mul-div_cancel, mul-le-mul_right, le_antisymm, le_trans, le_of_eq, lt_of_le_of_lt, add_assoc}
use native.Mathlib.Omega.{arith}
use lib.Pow.{pow-add, shl_lt, shl-shr, high, low}
use lib.Ieee.{Float, nan, inf, fin, binary32, up, down, size, to_bits}
use lib.Ieee.Digits.{size-lt, size-le, size_reaches}
use lib.Ieee.Exact.{HasValue}
use lib.Ieee.Fits.{down_pos}
use mathlib.Core.Logic.{inl, inr}
use Rattle.floats.proofs.Compare.{le_or_lt}
use Rattle.floats.proofs.Pattern.{pow_lt_back}
use Rattle.recording_shorts.specs.Shorts.{short_sample, quotient_bits}
use Rattle.recording_shorts.specs.Steps.{pattern_of, SizeOf, Guessed}
use Rattle.recording_shorts.proofs.Laws.{negative, size_of, at_least_zero, below_zero, size_least, exact}

-- ---- digits

module _ (m : ℕ) (some : 0 < m) where
  has_digits : (w : ℕ) → m < 2 ^ w → 0 < w
  has_digits zero h = omega arith
  has_digits (suc w) h = omega arith

  one_digit : 0 < size m
  one_digit = has_digits (size m) (size-lt m)

  least : 2 ^ (size m - 1) ≤ m
  least = size_reaches m (size m - 1) (omega (arith, one_digit))

  raised : 2 ^ (size m - 1 + 134) ≤ m * 2 ^ 134
  raised = le_trans (le_of_eq (pow-add 2 (size m - 1) 134)) (mul-le-mul_right (2 ^ 134) least)

  reaches : size m - 1 + 134 < size (m * 2 ^ 134)
  reaches = pow_lt_back (size m - 1 + 134) (size (m * 2 ^ 134)) (lt_of_le_of_lt raised (size-lt (m * 2 ^ 134)))

  size_raised : size (m * 2 ^ 134) ≡ size m + 134
  size_raised = le_antisymm (size-le (m * 2 ^ 134) (size m + 134) (shl_lt (size m) 134 (size-lt m))) (omega (arith, reaches, one_digit))

  few_digits : m ≤ 32768 → size m ≤ 16
  few_digits h = size-le m 16 (omega arith)

  -- the number, shifted up to 24 digits
  lifted : m ≤ 32768 → (2 ^ 23 ≤ m * 2 ^ (24 - size m)) × (m * 2 ^ (24 - size m) < 2 ^ 24)
  lifted h =
      let w = size m in
      let a : w - 1 + (24 - w) ≡ 23 = omega (arith, one_digit, few_digits h) in
      let b : w + (24 - w) ≡ 24 = omega (arith, few_digits h) in (
        le_trans (le_of_eq (ap (λ (k : ℕ). 2 ^ k) (sym a) ∙ pow-add 2 (w - 1) (24 - w))) (mul-le-mul_right (2 ^ (24 - w)) least),
        rw b at (shl_lt w (24 - w) (size-lt m)),
      )

-- ---- the pattern of a size

above : ℕ → ℕ
above m = (size m + 110) * 2 ^ 23 + m * 2 ^ (24 - size m)

pattern_above : (m : ℕ) → 0 < m → pattern_of m ≡ above m
unfolding pattern_of above
pattern_above zero h = omega arith
pattern_above (suc k) h = refl

pattern_none : pattern_of 0 ≡ 0
unfolding pattern_of
pattern_none = refl

plain : ℕ → ℕ
plain g = (size g - 24) * 2 ^ 23 + g / 2 ^ (size g - 24)

across : (a m d : ℕ) → a * 32768 ≡ m * d → a * 2 ^ 149 ≡ m * 2 ^ 134 * d
across a m d e = sym (mul_assoc a 32768 (2 ^ 134)) ∙ ap (λ (x : ℕ). x * 2 ^ 134) e ∙ mul_right_comm m d (2 ^ 134)

bits_of : (y : Float) (s : Bool) (m : ℕ) → HasValue y s m 32768 → to_bits binary32 y ≡ cond s (2 ^ 31) 0 + plain (m * 2 ^ 134)
unfolding to_bits plain
bits_of nan s m v = absurd v
bits_of (inf t) s m v = absurd v
bits_of (fin t a e) s m v =
    let n = a * up e * 2 ^ 149 / down e in
    let is : n ≡ m * 2 ^ 134 = ap (λ (x : ℕ). x / down e) (across (a * up e) m (down e) v.1) ∙ mul-div_cancel (m * 2 ^ 134) (down_pos e) in
    add_assoc (cond t (2 ^ 31) 0) ((size n - 24) * 2 ^ 23) (n / 2 ^ (size n - 24))
    ∙ ap (λ (x : Bool). cond x (2 ^ 31) 0 + plain n) v.0
    ∙ ap (λ (x : ℕ). cond s (2 ^ 31) 0 + plain x) is

plain_above : (m : ℕ) → 0 < m → m ≤ 32768 → plain (m * 2 ^ 134) ≡ above m
unfolding plain above
plain_above m some h =
    let w = size m in
    let k : size (m * 2 ^ 134) - 24 ≡ w + 110 = omega (arith, size_raised m some) in
    let j : 24 - w + (w + 110) ≡ 134 = omega (arith, few_digits m some h) in
    let e : m * 2 ^ 134 ≡ m * 2 ^ (24 - w) * 2 ^ (w + 110) = ap (λ (x : ℕ). m * 2 ^ x) (sym j) ∙ ap (λ (x : ℕ). m * x) (pow-add 2 (24 - w) (w + 110)) ∙ sym (mul_assoc m (2 ^ (24 - w)) (2 ^ (w + 110))) in
    ap (λ (x : ℕ). x * 2 ^ 23 + m * 2 ^ 134 / 2 ^ x) k
    ∙ ap (λ (x : ℕ). (w + 110) * 2 ^ 23 + x) (ap (λ (x : ℕ). x / 2 ^ (w + 110)) e ∙ shl-shr (m * 2 ^ (24 - w)) (w + 110))

plain_none : plain (0 * 2 ^ 134) ≡ 0
unfolding plain size lib.Ieee.span lib.Ieee.climb
plain_none = refl

plain_pattern : (m : ℕ) → m ≤ 32768 → plain (m * 2 ^ 134) ≡ pattern_of m
plain_pattern zero h = plain_none ∙ sym pattern_none
plain_pattern (suc k) h = plain_above (suc k) (omega arith) h ∙ sym (pattern_above (suc k) (omega arith))

-- the pattern of a number's quotient
pub bits_are : (n : ℕ) → n < 65536 → quotient_bits n ≡ cond (negative n) (2 ^ 31) 0 + pattern_of (size_of n)
unfolding quotient_bits
bits_are n h = bits_of (short_sample n) (negative n) (size_of n) (exact n h) ∙ ap (λ (x : ℕ). cond (negative n) (2 ^ 31) 0 + x) (plain_pattern (size_of n) (size_least n h))

-- ---- the size from the pattern

module _ (m : ℕ) (some : 0 < m) (h : m ≤ 32768) where
  rest : ℕ
  rest = m * 2 ^ (24 - size m) - 2 ^ 23

  split : (pattern_of m ≡ (size m + 111) * 2 ^ 23 + rest) × (rest < 2 ^ 23) × (rest + 2 ^ 23 ≡ m * 2 ^ (24 - size m))
  unfolding above rest
  split = let l = lifted m some h in let e = pattern_above m some in (omega arith, omega arith, omega arith)

  field_is : pattern_of m / 2 ^ 23 ≡ size m + 111
  field_is = ap (λ (x : ℕ). x / 2 ^ 23) split.0 ∙ high (size m + 111) 23 split.1

  rest_is : pattern_of m % 2 ^ 23 + 2 ^ 23 ≡ m * 2 ^ (24 - size m)
  rest_is = ap (λ (x : ℕ). x % 2 ^ 23 + 2 ^ 23) split.0 ∙ ap (λ (x : ℕ). x + 2 ^ 23) (low (size m + 111) 23 split.1) ∙ split.2

  field_between : (112 ≤ pattern_of m / 2 ^ 23) × (pattern_of m / 2 ^ 23 ≤ 127)
  field_between = (omega (arith, field_is, one_digit m some), omega (arith, field_is, few_digits m some h))

  number_is : (pattern_of m % 2 ^ 23 + 2 ^ 23) / 2 ^ (135 - pattern_of m / 2 ^ 23) ≡ m
  number_is =
      let k : 135 - pattern_of m / 2 ^ 23 ≡ 24 - size m = omega (arith, field_is, few_digits m some h) in
      ap (λ (x : ℕ). (pattern_of m % 2 ^ 23 + 2 ^ 23) / 2 ^ x) k ∙ ap (λ (x : ℕ). x / 2 ^ (24 - size m)) rest_is ∙ shl-shr m (24 - size m)

pub pattern_below : (m : ℕ) → m ≤ 32768 → pattern_of m < 2 ^ 31
pattern_below zero h = omega (arith, pattern_none)
pattern_below (suc k) h = omega (arith, (split (suc k) (omega arith) h).0, (split (suc k) (omega arith) h).1, few_digits (suc k) (omega arith) h)

-- a field that no number but 0 has
pub no_size : (pattern : ℕ) → (112 ≤ pattern / 2 ^ 23 → pattern / 2 ^ 23 ≤ 127 → ⊥) → SizeOf pattern 0
unfolding SizeOf
no_size pattern no_field zero h e = refl
no_size pattern no_field (suc k) h e = let f = field_between (suc k) (omega arith) h in absurd (rw (← e) at no_field f.0 f.1)

pub size_is : (pattern : ℕ) → 112 ≤ pattern / 2 ^ 23 → SizeOf pattern ((pattern % 2 ^ 23 + 2 ^ 23) / 2 ^ (135 - pattern / 2 ^ 23))
unfolding SizeOf
size_is pattern f zero h e = let z : pattern ≡ 0 = sym e ∙ pattern_none in absurd (omega arith)
size_is pattern f (suc k) h e = rw (← e) (number_is (suc k) (omega arith) h)

-- ---- the number from its size and its sign

module _ (bits r : ℕ) (is : SizeOf (bits % 2 ^ 31) r) where
  positive : (n : ℕ) → n < 32768 → quotient_bits n ≡ bits → (bits < 2 ^ 31) × (r ≡ n)
  unfolding SizeOf
  positive n h e =
      let z = at_least_zero n h in
      let b : bits ≡ pattern_of n = sym e ∙ bits_are n (omega arith) ∙ rw (z.1, z.2) (omega arith) in
      let p = pattern_below n (omega arith) in
      let m : pattern_of n ≡ bits % 2 ^ 31 = omega arith in
      (omega arith, is n (omega arith) m)

  negatives : (n : ℕ) → 32768 ≤ n → n < 65536 → quotient_bits n ≡ bits → (2 ^ 31 ≤ bits) × (r ≡ 65536 - n)
  unfolding SizeOf
  negatives n h l e =
      let z = below_zero n h in
      let b : bits ≡ 2 ^ 31 + pattern_of (65536 - n) = sym e ∙ bits_are n l ∙ rw (z.1, z.2) in
      let p = pattern_below (65536 - n) (omega arith) in
      let m : pattern_of (65536 - n) ≡ bits % 2 ^ 31 = omega arith in
      (omega arith, is (65536 - n) (omega arith) m)

  pub guess_large : 32768 < r → Guessed bits 0
  unfolding Guessed
  guess_large h n l e = elim (le_or_lt 32768 n) [
    | inl a ↦ omega (arith, (negatives n a l e).1)
    | inr b ↦ omega (arith, (positive n b e).1)
  ]

  pub guess_positive : bits < 2 ^ 31 → Guessed bits r
  unfolding Guessed
  guess_positive h n l e = elim (le_or_lt 32768 n) [
    | inl a ↦ omega (arith, (negatives n a l e).0)
    | inr b ↦ (positive n b e).1
  ]

  pub guess_none : 2 ^ 31 ≤ bits → r ≡ 0 → Guessed bits 0
  unfolding Guessed
  guess_none h z n l e = elim (le_or_lt 32768 n) [
    | inl a ↦ omega (arith, (negatives n a l e).1)
    | inr b ↦ omega (arith, (positive n b e).0)
  ]

  pub guess_negative : 2 ^ 31 ≤ bits → Guessed bits (65536 - r)
  unfolding Guessed
  guess_negative h n l e = elim (le_or_lt 32768 n) [
    | inl a ↦ omega (arith, (negatives n a l e).1)
    | inr b ↦ omega (arith, (positive n b e).0)
  ]
