-- Two steps of Newton's method from a guess within 2 ^ 16 of the root of an m from 2 ^ 52 to 2 ^ 54 give its whole root or one more.
use mathlib.Core.Path.{◌≡◌, refl, sym, ap, ◌∙◌, subst}
use mathlib.Core.Logic.{◌⊎◌, inl, inr}
use Prim.Native.Nat.{ℕ, zero, suc, ◌+◌, ◌-◌, ◌*◌, ◌/◌, ◌^◌, ◌≤◌, ◌<◌}
use native.Mathlib.Nat.{lt_of_lt_of_le, lt_of_le_of_lt, lt_of_not-le, not-le_of_lt, add-mul, mul-add, mul-one, mul_comm, mul_left_comm, mul-mul-mul_comm, mul-le-mul, mul-le-mul_left, div-mul-le_self, lt-div-mul-add}
use native.Mathlib.Omega.{arith}
use mathlib.Core.Bool.{Bool, true, false, not}
use lib.Dec.{T, leb, leb→le, nleb→lt}
use Rattle.root_table.specs.Guesses.{IsRoot, Near}

pub le_or_lt : (a b : ℕ) → (a ≤ b) ⊎ (b < a)
le_or_lt a b = go (leb a b) (leb→le a b) (nleb→lt a b)
  where
    go : (t : Bool) → (T t → a ≤ b) → (T (not t) → b < a) → (a ≤ b) ⊎ (b < a)
    go true h k = inl (h tt)
    go false h k = inr (k tt)

-- ---- squares

sum_square : (a b : ℕ) → (a + b) * (a + b) ≡ a * a + a * b + (a * b + b * b)
sum_square a b = add-mul a b (a + b) ∙ ap (λ (y : ℕ). y + b * (a + b)) (mul-add a a b) ∙ ap (λ (y : ℕ). a * a + a * b + y) (mul-add b a b ∙ ap (λ (y : ℕ). y + b * b) (mul_comm b a))

root_lt : (a b : ℕ) → a * a < b * b → a < b
root_lt a b h = lt_of_not-le (λ (g : b ≤ a). not-le_of_lt h (mul-le-mul g g))

-- the squares of two numbers are twice their product and the square of their difference e
squares : (a b e : ℕ) → b ≡ a + e → a * a + b * b ≡ 2 * (a * b) + e * e
squares a b e h = rw h (omega (arith, sum_square a e, mul-add a a e))

-- so for numbers at most d apart
apart : (a b d : ℕ) → a ≤ b + d → b ≤ a + d → a * a + b * b ≤ 2 * (a * b) + d * d
apart a b d h k = elim (le_or_lt a b) [
  | inl o ↦ let l : b - a ≤ d = omega arith in omega (arith, squares a b (b - a) (omega arith), mul-le-mul l l)
  | inr o ↦ let l : a - b ≤ d = omega arith in omega (arith, squares b a (a - b) (omega arith), mul_comm a b, mul-le-mul l l)
]

-- four times a product is at most the square of the sum
means : (a b : ℕ) → 4 * (a * b) ≤ (a + b) * (a + b)
means a b = elim (le_or_lt a b) [
  | inl o ↦ omega (arith, sum_square a b, squares a b (b - a) (omega arith))
  | inr o ↦ omega (arith, sum_square a b, squares b a (a - b) (omega arith), mul_comm a b)
]

-- ---- a step

-- it is never below the root
never_below : (m g : ℕ) → 0 < g → m < ((g + m / g) / 2 + 1) * ((g + m / g) / 2 + 1)
never_below m g p = go (m / g) (lt-div-mul-add p)
  where
    go : (q : ℕ) → m < q * g + g → m < ((g + q) / 2 + 1) * ((g + q) / 2 + 1)
    go q h =
        let r = (g + q) / 2 + 1 in
        let l : q + 1 + g ≤ 2 * r = omega arith in
        omega (arith, add-mul q 1 g, mul_comm 1 g, mul-one g, means (q + 1) g, mul-le-mul l l, mul-mul-mul_comm 2 r 2 r)

-- and it is above it by less than the square of the guess's distance, by twice the guess
not_far : (m g R d e : ℕ) → IsRoot m R → g ≤ R + d → R ≤ g + d → R + e ≤ (g + m / g) / 2 → 2 * (g * e) ≤ d * d + 2 * R
not_far m g R d e h a b l = go (m / g) (div-mul-le_self m g) l
  where
    go : (q : ℕ) → q * g ≤ m → R + e ≤ (g + q) / 2 → 2 * (g * e) ≤ d * d + 2 * R
    go q s l =
        let t : 2 * (R + e) ≤ g + q = omega arith in
        omega (arith, h.1, sum_square R 1, mul-one R, apart g R d a b, mul-le-mul_left g t, mul_left_comm g 2 (R + e), mul-add g R e, mul-add g g q, mul_comm g q)

-- ---- the whole root, and numbers at most d above it

pub record Above (d m a : ℕ) : Type 0 where
  pub root : ℕ
  pub is : IsRoot m root
  pub from : root ≤ a
  pub to : a ≤ root + d

step : (m g R d e : ℕ) → IsRoot m R → 0 < g → g ≤ R + d → R ≤ g + d → d * d + 2 * R < 2 * (g * (e + 1)) → Above e m ((g + m / g) / 2)
step m g R d e h p a b far = record { root = R; is = h; from = least ((g + m / g) / 2) (never_below m g p); to = most ((g + m / g) / 2) (not_far m g R d (e + 1) h a b) }
  where
    least : (s : ℕ) → m < (s + 1) * (s + 1) → R ≤ s
    least s n = let l : R < s + 1 = root_lt R (s + 1) (lt_of_le_of_lt h.0 n) in omega arith

    most : (s : ℕ) → (R + (e + 1) ≤ s → 2 * (g * (e + 1)) ≤ d * d + 2 * R) → s ≤ R + e
    most s n = elim (le_or_lt s (R + e)) [ inl o ↦ o | inr o ↦ absurd (not-le_of_lt far (n (omega arith))) ]

-- every number has a whole root
pub record Rooted (m : ℕ) : Type 0 where
  pub root : ℕ
  pub is : IsRoot m root

rooted : (m : ℕ) → Rooted m
rooted zero = record { root = 0; is = (omega arith, omega arith) }
rooted (suc m) = go (rooted m).root (rooted m).is
  where
    go : (R : ℕ) → IsRoot m R → Rooted (suc m)
    go R h = elim (le_or_lt ((R + 1) * (R + 1)) (suc m)) [
      | inl o ↦ record { root = R + 1; is = (o, omega (arith, h.1, sum_square (R + 1) 1, mul-one (R + 1))) }
      | inr o ↦ record { root = R; is = (omega (arith, h.0), o) }
    ]

-- ---- two steps

module _ (m : ℕ) (lo : 2 ^ 52 ≤ m) (hi : m < 2 ^ 54) where
  root_low : (R : ℕ) → IsRoot m R → 2 ^ 26 ≤ R
  root_low R h = let l : 2 ^ 26 < R + 1 = root_lt (2 ^ 26) (R + 1) (lt_of_le_of_lt lo h.1) in omega arith

  root_high : (R : ℕ) → IsRoot m R → R < 2 ^ 27
  root_high R h = root_lt R (2 ^ 27) (lt_of_le_of_lt h.0 hi)

  pub above_low : {d a : ℕ} → Above d m a → 2 ^ 26 ≤ a
  above_low s = omega (arith, root_low s.root s.is, s.from)

  pub above_high : {d a : ℕ} → Above d m a → a < 2 ^ 27 + d
  above_high s = omega (arith, root_high s.root s.is, s.to)

  module _ (g : ℕ) (near : Near m g) where
    pub guess_low : 2 ^ 26 - 2 ^ 16 ≤ g
    guess_low = let l : 2 ^ 26 < g + 2 ^ 16 = root_lt (2 ^ 26) (g + 2 ^ 16) (lt_of_le_of_lt lo near.below) in omega arith

    pub guess_high : g < 2 ^ 27 + 2 ^ 16
    guess_high = let l : g - 2 ^ 16 < 2 ^ 27 = root_lt (g - 2 ^ 16) (2 ^ 27) (lt_of_le_of_lt near.above hi) in omega arith

    pub first : Above 34 m ((g + m / g) / 2)
    first =
        let R = (rooted m).root in
        let h = (rooted m).is in
        let under : g - 2 ^ 16 < R + 1 = root_lt (g - 2 ^ 16) (R + 1) (lt_of_le_of_lt near.above h.1) in
        let over : R < g + 2 ^ 16 = root_lt R (g + 2 ^ 16) (lt_of_le_of_lt h.0 near.below) in
        step m g R (2 ^ 16) 34 h (omega (arith, guess_low)) (omega arith) (omega arith) (omega (arith, guess_low, root_high R h))

  pub second : (a : ℕ) → Above 34 m a → Above 1 m ((a + m / a) / 2)
  second a s = step m a s.root 34 1 s.is (omega (arith, above_low s)) s.to (omega (arith, s.from)) (omega (arith, s.from, root_low s.root s.is))

-- ---- the correction

pub level : (m r : ℕ) → Above 1 m r → r * r ≤ m → IsRoot m r
level m r s h = let l : s.root + 1 ≤ r + 1 = omega (arith, s.from) in (h, lt_of_lt_of_le s.is.1 (mul-le-mul l l))

pub down : (m r : ℕ) → Above 1 m r → m < r * r → IsRoot m (r - 1)
down m r s h =
    let l : s.root < r = root_lt s.root r (lt_of_le_of_lt s.is.0 h) in
    let e : s.root ≡ r - 1 = omega (arith, s.to) in
    subst (IsRoot m) e s.is
