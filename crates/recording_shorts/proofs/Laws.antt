-- The promises of 16-bit samples: nothing is rounded, and two numbers have two patterns.
use mathlib.Core.Path.{◌≡◌, refl, sym, ap, ◌∙◌}
use mathlib.Core.Bool.{Bool, true, false, true≢false}
use mathlib.Core.Logic.{inl, inr}
use Prim.Native.Nat.{ℕ, suc, ◌-◌, ◌*◌, ◌^◌, ◌<◌, ◌≤◌}
use native.Mathlib.Nat.{mul_assoc, mul_right_comm, eq_of_mul-eq-mul_right, lt_of_lt_of_le}
use native.Mathlib.Omega.{arith}
use lib.Dec.{T, ltb, leb, lit≤}
use lib.Pow.{pow_mono, shl_lt}
use mir.Syntax.{w16}
use mir.Val.{to_z}
use mir.ValLaws.{to_z_pos, to_z-neg}
use lib.IntN.{ℤ, pos, negsuc}
use lib.Ieee.{Float, nan, inf, fin, binary32, up, down, size, round, units, odd, climb, of_int, div, unlike, of_bits, of_fields, to_bits, fits}
use lib.Ieee.Back.{round_whole}
use lib.Ieee.Bits.{of_bits-to_bits}
use lib.Ieee.Exact.{HasValue, round_exact}
use lib.Ieee.Fits.{div-fits, down_pos}
use lib.Ieee.Scale.{round_same}
use borrow.Author.Tests.{lt-ltb, le-ltb, lt-leb, le-leb}
use Rattle.answers.specs.Pick.{pick, pick_true, pick_false}
use Rattle.floats.proofs.Compare.{le_or_lt}
use Rattle.recording_shorts.specs.Shorts.{signed, short_sample, quotient_bits}

-- ---- the quotient, from the size of the number and its sign

pub negative : ℕ → Bool
negative n = leb 32768 n

pub size_of : ℕ → ℕ
size_of n = pick (ltb n 32768) n (65536 - n)

divisor : of_int binary32 (pos 32768) ≡ fin false 1 (pos 15)
unfolding of_int round size lib.Ieee.span climb units odd lib.Count.count_trailing_zeros
divisor = refl

signed_by : (t : Bool) → unlike t false ≡ t
signed_by true = refl
signed_by false = refl

across : (a m d : ℕ) → a ≡ m * d → a * 32768 ≡ m * (32768 * d)
across a m d e = rw e (mul_right_comm m d 32768 ∙ mul_assoc m 32768 d)

some : (d : ℕ) → 0 < d → 0 < 32768 * d
some d h = omega arith

-- a whole number divided by 32,768
pub divided : (x : Float) (s : Bool) (m : ℕ) → HasValue x s m 1 → div binary32 x (of_int binary32 (pos 32768)) ≡ round binary32 s m 32768
unfolding div
divided nan s m v = absurd v
divided (inf t) s m v = absurd v
divided (fin t a e) s m v =
    rw divisor
    (ap (λ (b : Bool). round binary32 b (a * up e * 1) (32768 * down e)) (signed_by t ∙ v.0)
    ∙ round_same binary32 s (a * up e * 1) (32768 * down e) m 32768 (some (down e) (down_pos e)) (omega arith) (across (a * up e * 1) m (down e) v.1))

round_short : (s : Bool) (m : ℕ) → m ≤ 32768 → HasValue (round binary32 s m 32768) s m 32768
round_short s m h =
    let small : m < 2 ^ 24 = omega arith in
    round_exact binary32 s m 32768 m 134 (omega arith) small (lt_of_lt_of_le (shl_lt 24 134 small) (pow_mono {i = 158} {j = 277} (lit≤ tt))) (sym (mul_assoc m (2 ^ 134) 32768))

whole_short : (s : Bool) (m : ℕ) → m ≤ 32768 → HasValue (round binary32 s m 1) s m 1
whole_short s m h = round_whole binary32 s m (omega arith)

module _ (n : ℕ) where
  pub at_least_zero : n < 32768 → (signed n ≡ pos n) × (negative n ≡ false) × (size_of n ≡ n)
  unfolding signed negative size_of
  at_least_zero h = (pick_true _ _ _ (lt-ltb n 32768 h), lt-leb 32768 n h, pick_true _ _ _ (lt-ltb n 32768 h))

  pub below_zero : 32768 ≤ n → (signed n ≡ negsuc (65535 - n)) × (negative n ≡ true) × (size_of n ≡ 65536 - n)
  unfolding signed negative size_of
  below_zero h = (pick_false _ _ _ (le-ltb n 32768 h), le-leb 32768 n h, pick_false _ _ _ (le-ltb n 32768 h))

  pub size_least : n < 65536 → size_of n ≤ 32768
  size_least h = elim (le_or_lt 32768 n) [
    | inl a ↦ omega (arith, (below_zero a).2)
    | inr b ↦ omega (arith, (at_least_zero b).2)
  ]

  pub number_value : n < 65536 → HasValue (of_int binary32 (signed n)) (negative n) (size_of n) 1
  unfolding of_int
  number_value h = elim (le_or_lt 32768 n) [
    | inl a ↦
        let e : suc (65535 - n) ≡ 65536 - n = omega arith in
        rw ((below_zero a).0, (below_zero a).1, (below_zero a).2, e) (whole_short true (65536 - n) (omega arith))
    | inr b ↦ rw ((at_least_zero b).0, (at_least_zero b).1, (at_least_zero b).2) (whole_short false n (omega arith))
  ]

  pub quotient : n < 65536 → short_sample n ≡ round binary32 (negative n) (size_of n) 32768
  unfolding short_sample
  quotient h = divided (of_int binary32 (signed n)) (negative n) (size_of n) (number_value h)

  -- nothing was rounded: the sample is the number divided by 32,768
  pub exact : n < 65536 → HasValue (short_sample n) (negative n) (size_of n) 32768
  exact h = rw (quotient h) (round_short (negative n) (size_of n) (size_least h))

  pub short_fits : T (fits binary32 (short_sample n))
  unfolding short_sample
  short_fits = div-fits binary32 (of_int binary32 (signed n)) (of_int binary32 (pos 32768))

  -- the pattern is read as the sample
  pub read_back : of_bits binary32 (quotient_bits n) ≡ short_sample n
  unfolding quotient_bits
  read_back = of_bits-to_bits binary32 (short_sample n) short_fits

-- ---- the division of the code

divisor_bits : of_bits binary32 1191182336 ≡ of_int binary32 (pos 32768)
unfolding of_bits of_fields of_int round size lib.Ieee.span climb units odd lib.Count.count_trailing_zeros
divisor_bits = refl

-- Rust's two's complement is that of the definition
cast : (n : ℕ) → n < 65536 → to_z w16 n ≡ signed n
cast n h = elim (le_or_lt 32768 n) [
  | inl a ↦
      let e : n ≡ 65536 - suc (65535 - n) = omega arith in
      ap (to_z w16) e ∙ to_z-neg w16 (65535 - n) (omega arith) ∙ sym (below_zero n a).0
  | inr b ↦ to_z_pos w16 n b ∙ sym (at_least_zero n b).0
]

-- what the code converts is the signed number, and what it divides by is 32,768
pub cast_divided : {z : ℤ} {d : Float} (n : ℕ) → n < 65536 → z ≡ to_z w16 n → d ≡ of_bits binary32 1191182336 → div binary32 (of_int binary32 z) d ≡ short_sample n
unfolding short_sample
cast_divided n h e f = rw (e, f, divisor_bits, cast n h)

-- ---- two numbers have two samples, and two patterns

same_value : (x : Float) (s t : Bool) (a b c : ℕ) → HasValue x s a c → HasValue x t b c → (s ≡ t) × (a ≡ b)
same_value nan s t a b c v w = absurd v
same_value (inf u) s t a b c v w = absurd v
same_value (fin u m e) s t a b c v w = (sym v.0 ∙ w.0, eq_of_mul-eq-mul_right (down e) (down_pos e) a b (sym v.1 ∙ w.1))

differ : (m n : ℕ) → negative m ≡ true → negative n ≡ false → negative m ≡ negative n → m ≡ n
differ m n a b e = absurd (true≢false (sym a ∙ e ∙ b))

told : (m n : ℕ) → m < 65536 → n < 65536 → negative m ≡ negative n → size_of m ≡ size_of n → m ≡ n
told m n h k e f = elim (le_or_lt 32768 m) [
  | inl a ↦ elim (le_or_lt 32768 n) [
    | inl c ↦ omega (arith, (below_zero m a).2, (below_zero n c).2)
    | inr d ↦ differ m n (below_zero m a).1 (at_least_zero n d).1 e
  ]
  | inr b ↦ elim (le_or_lt 32768 n) [
    | inl c ↦ sym (differ n m (below_zero n c).1 (at_least_zero m b).1 (sym e))
    | inr d ↦ omega (arith, (at_least_zero m b).2, (at_least_zero n d).2)
  ]
]

pub one_sample : (m n : ℕ) → m < 65536 → n < 65536 → short_sample m ≡ short_sample n → m ≡ n
one_sample m n h k e =
    let v = same_value (short_sample m) (negative m) (negative n) (size_of m) (size_of n) 32768 (exact m h) (rw e (exact n k)) in
    told m n h k v.0 v.1

pub one_number : (m n : ℕ) → m < 65536 → n < 65536 → quotient_bits m ≡ quotient_bits n → m ≡ n
one_number m n h k e = one_sample m n h k (sym (read_back m) ∙ ap (of_bits binary32) e ∙ read_back n)
