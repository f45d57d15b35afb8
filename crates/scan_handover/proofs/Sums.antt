-- A finite f64 plus the magnitude of a finite f32 is finite: the largest f64 plus the largest f32 rounds to the largest f64, and rounding is monotone.
use Prim.Native.Nat.{ℕ, zero, suc, ◌+◌, ◌-◌, ◌*◌, ◌%◌, ◌^◌, ◌≤◌, ◌<◌, zero-le}
use mathlib.Core.Path.{◌≡◌, refl, sym, ap, ◌∙◌, subst}
use mathlib.Core.Bool.{Bool, true, false, ◌&&◌, cond, false≢true}
use mathlib.Core.Logic.{inl, inr}
use native.Mathlib.Nat.{le_trans, le_of_eq, le_of_lt, lt_of_mul-lt-mul_right, mul_assoc, mul_comm, mul-one, one-mul, zero-mul, mul-le-mul, mul-le-mul_left, mul-le-mul_right, mul-pos, add-mul, add-le-add}
use native.Mathlib.Omega.{arith}
use lib.Dec.{T, leb, ltb, eqb, ltb→lt, lit≤, lit<}
use lib.IntN.{ℤ, pos, negsuc}
use lib.Pow.{pow-add, pow_pos, pow_mono}
use lib.Ieee.{Float, nan, inf, fin, binary32, binary64, Format, prec, emax, low, up, down, round, units, odd, add, sum, le, lt, eq, fits}
use lib.Ieee.Fits.{and_l, and_r, down_pos, round_is, add-fits}
use lib.Ieee.Digits.{back}
use lib.Ieee.Order.{round_mono}
use lib.Ieee.Scale.{finite}
use Rattle.floats.specs.Functions.{magnitude}
use Rattle.floats.proofs.Compare.{le_or_lt}
use Rattle.floats.proofs.Levels.{largest, AtMost, sample_at_most}
use Rattle.scan.specs.Blocks.{summed}

-- the largest f64
abbrev most : ℕ
most = (2 ^ 53 - 1) * 2 ^ 971

-- ---- rounding is finite or not by the size alone

odd_finite : (d : ℕ) (s : Bool) (q k l : ℕ) → finite (odd d s q k l) ≡ true
unfolding odd
odd_finite d s zero k l = refl
odd_finite d s (suc q) k l = refl

units_finite : (f : Format) (s : Bool) (q k : ℕ) → finite (units f s q k) ≡ ltb (q * 2 ^ k) (2 ^ (low f + suc (emax f)))
unfolding units
units_finite f s q k = go (ltb (q * 2 ^ k) (2 ^ (low f + suc (emax f))))
  where
    go : (b : Bool) → finite (cond b (odd (suc (prec f)) s q k (low f)) (inf s)) ≡ b
    go true = odd_finite (suc (prec f)) s q k (low f)
    go false = refl

round_unsigned : (f : Format) (s : Bool) (a c : ℕ) → finite (round f s a c) ≡ finite (round f false a c)
round_unsigned f s a c = ap finite (round_is f s a c) ∙ units_finite f s _ _ ∙ sym (units_finite f false _ _) ∙ ap finite (sym (round_is f false a c))

-- what is at most a finite value is finite
below_finite : (f : Format) (q k : ℕ) (y : Float) → finite y ≡ true → T (le (units f false q k) y) → finite (units f false q k) ≡ true
unfolding units le lt eq
below_finite f q k y h l = go (ltb (q * 2 ^ k) (2 ^ (low f + suc (emax f)))) y h l
  where
    go : (b : Bool) (y : Float) → finite y ≡ true → T (le (cond b (odd (suc (prec f)) false q k (low f)) (inf false)) y) → finite (cond b (odd (suc (prec f)) false q k (low f)) (inf false)) ≡ true
    go true y h l = odd_finite (suc (prec f)) false q k (low f)
    go false nan h l = absurd (false≢true h)
    go false (inf t) h l = absurd (false≢true h)
    go false (fin t m e) h l = absurd l

-- ---- the largest f64 plus the largest f32

bound_finite : finite (round binary64 false (most + largest) 1) ≡ true
unfolding round
bound_finite = refl

round_finite : (s : Bool) (a c : ℕ) → 0 < c → a ≤ (most + largest) * c → finite (round binary64 s a c) ≡ true
round_finite s a c p h =
    let below = round_mono binary64 a c (most + largest) 1 p (lit< tt) (le_trans (le_of_eq (mul-one a)) h) in
    let is = round_is binary64 false a c in
    round_unsigned binary64 s a c
    ∙ ap finite is
    ∙ below_finite binary64 _ _ (round binary64 false (most + largest) 1) bound_finite (subst (λ (z : Float). T (le z (round binary64 false (most + largest) 1))) is below)

-- a sum or a difference within it
sum_within : (s t : Bool) (a b c : ℕ) → 0 < c → a + b ≤ (most + largest) * c → finite (sum binary64 s a t b c) ≡ true
unfolding sum
sum_within true true a b c p h = round_finite true (a + b) c p h
sum_within false false a b c p h = round_finite false (a + b) c p h
sum_within true false a b c p h = go (ltb a b)
  where
    go : (u : Bool) → finite (cond u (round binary64 false (b - a) c) (round binary64 (true && ltb b a) (a - b) c)) ≡ true
    go true = round_finite false (b - a) c p (le_trans (omega arith) h)
    go false = round_finite (true && ltb b a) (a - b) c p (le_trans (omega arith) h)
sum_within false true a b c p h = go (ltb a b)
  where
    go : (u : Bool) → finite (cond u (round binary64 true (b - a) c) (round binary64 (false && ltb b a) (a - b) c)) ≡ true
    go true = round_finite true (b - a) c p (le_trans (omega arith) h)
    go false = round_finite (false && ltb b a) (a - b) c p (le_trans (omega arith) h)

-- ---- a finite f64 is at most the largest one

number_most : (m k : ℕ) → m < 2 ^ 53 → m * 2 ^ k < 2 ^ 1024 → m * 2 ^ k ≤ most
number_most m k d h = elim (le_or_lt k 971) [
  | inl l ↦ le_trans (mul-le-mul_left m (pow_mono l)) (scaled m d)
  | inr l ↦
      let e : m * 2 ^ k ≡ m * 2 ^ (k - 971) * 2 ^ 971 = ap (λ (y : ℕ). m * 2 ^ y) (sym (back k 971 (le_of_lt l))) ∙ ap (λ (y : ℕ). m * y) (pow-add 2 (k - 971) 971) ∙ sym (mul_assoc m (2 ^ (k - 971)) (2 ^ 971)) in
      le_trans (le_of_eq e) (scaled (m * 2 ^ (k - 971)) (unscaled (m * 2 ^ (k - 971)) (subst (λ (y : ℕ). y < 2 ^ 1024) e h)))
]
  where
    scaled : (v : ℕ) → v < 2 ^ 53 → v * 2 ^ 971 ≤ most
    scaled v h = mul-le-mul_right {m = v} {n = 2 ^ 53 - 1} (2 ^ 971) (omega arith)

    unscaled : (v : ℕ) → v * 2 ^ 971 < 2 ^ 1024 → v < 2 ^ 53
    unscaled v h = lt_of_mul-lt-mul_right (2 ^ 971) {m = v} {n = 2 ^ 53} h

value_most : (s : Bool) (m : ℕ) (e : ℤ) → T (fits binary64 (fin s m e)) → m * up e ≤ most * down e
unfolding fits
value_most s zero e t = le_trans (le_of_eq (zero-mul (up e))) zero-le
value_most s (suc m) e t =
    let n = suc m in
    let a = eqb (n % 2) 1 in
    let b = ltb n (2 ^ 53) in
    let c = leb (down e) (2 ^ 1074) in
    let d = ltb (n * up e) (2 ^ 1024 * down e) in
    by e (ltb→lt n (2 ^ 53) (and_r a b (and_l (a && b) c (and_l (a && b && c) d t)))) (ltb→lt (n * up e) (2 ^ 1024 * down e) (and_r (a && b && c) d t))
  where
    by : (e : ℤ) → suc m < 2 ^ 53 → suc m * up e < 2 ^ 1024 * down e → suc m * up e ≤ most * down e
    by (pos k) a b = le_trans (number_most (suc m) k a b) (le_of_eq (sym (mul-one most)))
    by (negsuc k) a b = mul-le-mul (le_trans (le_of_lt a) (lit≤ tt)) (pow_pos (suc k))

-- ---- the sum

add_finite : (x y : Float) → T (fits binary64 x) → finite x ≡ true → AtMost 1 y → finite (add binary64 x y) ≡ true
unfolding add
add_finite nan y t h q = absurd (false≢true h)
add_finite (inf s) y t h q = absurd (false≢true h)
add_finite (fin s m e) nan t h q = absurd q
add_finite (fin s m e) (inf u) t h q = absurd q
add_finite (fin s m e) (fin true l d) t h q = absurd q
add_finite (fin s m e) (fin false l d) t h q =
    sum_within s false (m * up e * down d) (l * up d * down e) (down e * down d) (mul-pos (down_pos e) (down_pos d))
    (le_trans (add-le-add (mul-le-mul_right (down d) (value_most s m e t)) (mul-le-mul_right (down e) q)) (le_of_eq (gather most largest (down e) (down d))))
  where
    gather : (v w a b : ℕ) → v * a * b + 1 * w * b * a ≡ (v + w) * (a * b)
    gather v w a b = simp (one-mul, add-mul, mul_assoc, mul_comm)

pub summed_finite : (sum x : Float) → T (fits binary64 sum) → finite sum ≡ true → T (fits binary32 x) → finite x ≡ true → finite (summed sum x) ≡ true
summed_finite sum x a h b k = add_finite sum (magnitude x) a h (sample_at_most x (subst T (sym k) tt) b)

pub summed_fits : (sum x : Float) → T (fits binary64 (summed sum x))
summed_fits sum x = add-fits binary64 sum (magnitude x)
