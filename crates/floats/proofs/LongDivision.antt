-- The arithmetic of `widen` and `mark`: from the whole root r of m to that of m * 4 ^ 27 by one division, and what is left over.
use mathlib.Core.Path.{◌≡◌, refl, sym, ap, ◌∙◌, subst}
use Prim.Native.Nat.{ℕ, zero, suc, ◌+◌, ◌-◌, ◌*◌, ◌/◌, ◌%◌, ◌^◌, ◌≤◌, ◌<◌}
use native.Mathlib.Nat.{lt_of_lt_of_le, le_of_suc-le-suc, add-mul, mul-add, add-zero, mul-one, one-mul, mul_comm, mul_right_comm, mul-mul-mul_comm, mul-le-mul, div-lt_iff_lt-mul, div-add-mod', mod-lt}
use native.Mathlib.Omega.{arith}
use mathlib.Core.Bool.{Bool, true, false, cond}
use lib.Dec.{T, eqb, eqb→eq, lit≤}
use lib.Ieee.Fits.{eq→eqb}
use Rattle.floats.proofs.SquareRoots.{root_from, root_to}
use Rattle.root_table.specs.Guesses.{IsRoot}
use Rattle.floats.specs.Steps.{Started, Close, Marked, sticky}

square : (r b q : ℕ) → (r * b + q) * (r * b + q) ≡ r * r * (b * b) + r * q * b + (r * q * b + q * q)
square r b q =
    add-mul (r * b) q (r * b + q)
    ∙ ap (λ (y : ℕ). y + q * (r * b + q)) (mul-add (r * b) (r * b) q ∙ ap (λ (y : ℕ). y + r * b * q) (mul-mul-mul_comm r b r b) ∙ ap (λ (y : ℕ). r * r * (b * b) + y) (mul_right_comm r b q))
    ∙ ap (λ (y : ℕ). r * r * (b * b) + r * q * b + y) (mul-add q (r * b) q ∙ ap (λ (y : ℕ). y + q * q) (mul_comm q (r * b) ∙ mul_right_comm r b q))

next_square : (r : ℕ) → (r + 1) * (r + 1) ≡ r * r + r + (r + 1)
next_square r = add-mul r 1 (r + 1) ∙ ap (λ (y : ℕ). y + 1 * (r + 1)) (mul-add r r 1 ∙ ap (λ (y : ℕ). r * r + y) (mul-one r)) ∙ ap (λ (y : ℕ). r * r + r + y) (one-mul (r + 1))

module _ {m r : ℕ} (S : Started m r) where
  pub root_low : 2 ^ 26 ≤ r
  root_low = root_from (2 ^ 26) m r S.is S.at_least

  pub root_high : r < 2 ^ 27
  root_high = root_to (2 ^ 27) m r S.is S.below

  pub rest_le : m - r * r ≤ 2 * r
  rest_le = omega (arith, next_square r, S.is.0, S.is.1)

  pub quotient_le : (m - r * r) * 2 ^ 26 / r ≤ 2 ^ 27
  quotient_le = le_of_suc-le-suc ((div-lt_iff_lt-mul (lt_of_lt_of_le (lit≤ tt) root_low)).1 (under ((m - r * r)) rest_le root_low))
    where
      under : (v : ℕ) → v ≤ 2 * r → 2 ^ 26 ≤ r → v * 2 ^ 26 < suc (2 ^ 27) * r
      under v h g = omega arith

  pub square_le : (m - r * r) * 2 ^ 26 / r * ((m - r * r) * 2 ^ 26 / r) ≤ 2 ^ 54
  square_le = mul-le-mul quotient_le quotient_le

  pub left_lt : (m - r * r) * 2 ^ 26 % r < r
  left_lt = mod-lt ((m - r * r) * 2 ^ 26) (lt_of_lt_of_le (lit≤ tt) root_low)

  pub wide_is : (r * 2 ^ 27 + (m - r * r) * 2 ^ 26 / r) * (r * 2 ^ 27 + (m - r * r) * 2 ^ 26 / r) + (m - r * r) * 2 ^ 26 % r * 2 ^ 28 ≡ m * 2 ^ 54 + (m - r * r) * 2 ^ 26 / r * ((m - r * r) * 2 ^ 26 / r)
  wide_is =
      let q = (m - r * r) * 2 ^ 26 / r in
      sums m (r * r) (r * q) (q * q) ((m - r * r) * 2 ^ 26 % r) ((r * 2 ^ 27 + q) * (r * 2 ^ 27 + q)) S.is.0 (square r (2 ^ 27) q)
      (ap (λ (y : ℕ). y + (m - r * r) * 2 ^ 26 % r) (mul_comm r q) ∙ div-add-mod' ((m - r * r) * 2 ^ 26) r)
    where
      sums : (m a p s v z : ℕ) → a ≤ m → z ≡ a * 2 ^ 54 + p * 2 ^ 27 + (p * 2 ^ 27 + s) → p + v ≡ (m - a) * 2 ^ 26 → z + v * 2 ^ 28 ≡ m * 2 ^ 54 + s
      sums m a p s v z h e d = omega arith

  pub wide_close : Close (r * 2 ^ 27 + (m - r * r) * 2 ^ 26 / r) ((m - r * r) * 2 ^ 26 % r * 2 ^ 28) ((m - r * r) * 2 ^ 26 / r * ((m - r * r) * 2 ^ 26 / r))
  wide_close = record {
    some = omega (arith, root_low);
    small = omega (arith, root_high, quotient_le);
    over = omega (arith, left_lt);
    under = go ((m - r * r) * 2 ^ 26 / r) quotient_le;
  }
    where
      some : (q w : ℕ) → 2 ^ 26 ≤ r → w ≤ 2 ^ 54 → w < 2 * (r * 2 ^ 27 + suc q)
      some q w g h = omega arith

      none : 2 ^ 26 ≤ r → 0 < 2 * (r * 2 ^ 27 + 0)
      none g = omega arith

      go : (q : ℕ) → q ≤ 2 ^ 27 → q * q < 2 * (r * 2 ^ 27 + q)
      go zero h = none root_low
      go (suc q) h = some q (suc q * suc q) root_low (mul-le-mul h h)

-- ---- what is left over

sticky_none : (a n : ℕ) → a ≡ n → sticky a n ≡ 0
sticky_none a n e = go (eqb a n) (eq→eqb e)
  where
    go : (b : Bool) → T b → ◌≡◌ {A = ℕ} (cond b 0 1) 0
    go true t = refl
    go false t = absurd t

sticky_some : (a n : ℕ) → (a ≡ n → ⊥) → sticky a n ≡ 1
sticky_some a n h = go (eqb a n) (eqb→eq a n)
  where
    go : (b : Bool) → (T b → a ≡ n) → ◌≡◌ {A = ℕ} (cond b 0 1) 1
    go true e = absurd (h (e tt))
    go false e = refl

pub exact : (n s w : ℕ) → IsRoot n s → s * s ≡ n → w ≡ s * 2 → Marked n w
exact n s w h e d = record { whole = s; is = h; marked = d ∙ mul_comm s 2 ∙ sym (add-zero (2 * s)) ∙ ap (λ (y : ℕ). 2 * s + y) (sym (sticky_none (s * s) n e)) }

pub inexact : (n s w : ℕ) → IsRoot n s → (s * s ≡ n → ⊥) → w ≡ s * 2 + 1 → Marked n w
inexact n s w h e d = record { whole = s; is = h; marked = d ∙ ap (λ (y : ℕ). y + 1) (mul_comm s 2) ∙ ap (λ (y : ℕ). 2 * s + y) (sym (sticky_some (s * s) n e)) }

-- ---- `mark`

module _ {s have want : ℕ} (C : Close s have want) where
  one_less : s - 1 + 1 ≡ s
  one_less = omega (arith, C.some)

  square_less : s * s ≡ (s - 1) * (s - 1) + (s - 1) + s
  square_less = ap (λ (y : ℕ). y * y) (sym one_less) ∙ next_square (s - 1) ∙ ap (λ (y : ℕ). (s - 1) * (s - 1) + (s - 1) + y) one_less

  down : have < want → IsRoot (s * s + have - want) (s - 1)
  down h = (omega (arith, square_less, C.under, C.some), subst (λ (y : ℕ). s * s + have - want < y * y) (sym one_less) (omega (arith, square_less, C.under, C.some)))

  level : want ≤ have → IsRoot (s * s + have - want) s
  level h = (omega arith, omega (arith, next_square s, C.over))

  pub mark_down : have < want → have + (s * 2 - 2) + 1 ≡ want → Marked (s * s + have - want) (s * 2 - 2)
  mark_down h e = exact (s * s + have - want) (s - 1) (s * 2 - 2) (down h) (omega (arith, square_less, C.some)) (omega (arith, C.some))

  pub mark_down_more : have < want → (have + (s * 2 - 2) + 1 ≡ want → ⊥) → Marked (s * s + have - want) (s * 2 - 2 + 1)
  mark_down_more h e = inexact (s * s + have - want) (s - 1) (s * 2 - 2 + 1) (down h) (λ d. e (omega (arith, square_less, C.some, C.under, d))) (omega (arith, C.some))

  pub mark_level : want ≤ have → have ≡ want → Marked (s * s + have - want) (s * 2)
  mark_level h e = exact (s * s + have - want) s (s * 2) (level h) (omega arith) refl

  pub mark_more : want ≤ have → (have ≡ want → ⊥) → Marked (s * s + have - want) (s * 2 + 1)
  mark_more h e = inexact (s * s + have - want) s (s * 2 + 1) (level h) (λ d. e (omega (arith, d))) refl
