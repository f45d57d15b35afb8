-- Doubling from 1 on gives the least power of two not below n.
use Prim.Native.Nat.{ℕ, zero, suc, ◌+◌, ◌*◌, ◌/◌, ◌^◌, ◌≤◌, ◌<◌, min, max}
use mathlib.Core.Path.{◌≡◌, refl, sym, ap, ◌∙◌, subst}
use mathlib.Core.Logic.{inl, inr}
use native.Mathlib.Nat.{pow-suc, add-zero, add-suc, suc-add, le_of_suc-le-suc}
use native.Mathlib.Omega.{arith}
use lib.Dec.{ltb}
use lib.Pow.{pow_mono}
use borrow.Author.Tests.{lt-ltb, ltb-true, ltb-false}
use Rattle.std.specs.Int.{IsPowerOfTwo}
use Rattle.answers.specs.Pick.{pick_true, pick_case}
use Rattle.floats.proofs.Compare.{le_or_lt}
use Rattle.fine.specs.State.{doubled_to, least_power, LeastPower}

-- ---- what is found is the least power of two not below n, for an n up to 2^16

above : (k j n : ℕ) → 2 ^ k < n → n ≤ 2 ^ j → suc k ≤ j
above k j n l r = elim (le_or_lt (suc k) j) [
  | inl h ↦ h
  | inr h ↦ absurd (omega (arith, pow_mono {i = j} {j = k} (le_of_suc-le-suc h)))
]

doubled_least : (times k n : ℕ) → n ≤ 2 ^ (k + times) → ((j : ℕ) → n ≤ 2 ^ j → k ≤ j) → LeastPower n (doubled_to times n (2 ^ k))
unfolding doubled_to
doubled_least zero k n h l = record { exponent = k; power = refl; reaches = subst (λ (j : ℕ). n ≤ 2 ^ j) (add-zero k) h; least = λ j r. pow_mono (l j r) }
doubled_least (suc times) k n h l =
    pick_case (LeastPower n) (ltb (2 ^ k) n) (doubled_to times n (2 ^ k * 2)) (2 ^ k)
    (λ t. subst (λ (p : ℕ). LeastPower n (doubled_to times n p)) (pow-suc 2 k)
    (doubled_least times (suc k) n (subst (λ (j : ℕ). n ≤ 2 ^ j) (add-suc k times ∙ sym (suc-add k times)) h)
    (λ j r. above k j n (ltb-true _ _ t) r)))
    (λ t. record { exponent = k; power = refl; reaches = ltb-false _ _ t; least = λ j r. pow_mono (l j r) })

pub least_power_lem : (n : ℕ) → n ≤ 65536 → LeastPower n (least_power n)
least_power_lem n h = doubled_least 16 0 n h (λ j r. omega arith)

-- ---- what `next_power_of_two` gives is that number

-- from 2^16 on, every doubling is made
doubled_past : (times k n : ℕ) → 2 ^ (k + times) ≤ n → doubled_to times n (2 ^ k) ≡ 2 ^ (k + times)
unfolding doubled_to
doubled_past zero k n h = ap (λ (j : ℕ). 2 ^ j) (sym (add-zero k))
doubled_past (suc times) k n h =
    let e : k + suc times ≡ suc k + times = add-suc k times ∙ sym (suc-add k times) in
    let first : 1 ≤ 2 ^ k = pow_mono {i = 0} {j = k} (omega arith) in
    let next : 2 ^ suc k ≤ 2 ^ (suc k + times) = pow_mono (omega arith) in
    let far : 2 ^ (suc k + times) ≤ n = subst (λ (j : ℕ). 2 ^ j ≤ n) e h in
    pick_true _ _ _ (lt-ltb _ _ (omega (arith, pow-suc 2 k, first, next, far)))
    ∙ (subst (λ (p : ℕ). doubled_to times n p ≡ 2 ^ (suc k + times)) (pow-suc 2 k) (doubled_past times (suc k) n far)
    ∙ ap (λ (j : ℕ). 2 ^ j) (sym e))

pub capped : (n : ℕ) → least_power (min n 65536) ≡ least_power n
capped n = elim (le_or_lt n 65536) [
  | inl h ↦ let e : min n 65536 ≡ n = omega arith in ap least_power e
  | inr h ↦ doubled_past 16 0 (min n 65536) (omega arith) ∙ sym (doubled_past 16 0 n (omega arith))
]

pub next_power : (n p : ℕ) → n ≤ 65536 → IsPowerOfTwo p → n ≤ p → p / 2 < max 1 n → p ≡ least_power n
next_power n p h (k, e) reaches least =
    let found = least_power_lem n h in
    let at_most : least_power n ≤ 2 ^ k = found.least k (subst (λ (q : ℕ). n ≤ q) e reaches) in
    let first : 1 ≤ 2 ^ found.exponent = pow_mono {i = 0} {j = found.exponent} (omega arith) in
    elim (le_or_lt k found.exponent) [
      | inl l ↦ let below : 2 ^ k ≤ 2 ^ found.exponent = pow_mono l in omega (arith, at_most, below, e, found.power)
      | inr l ↦
          let above : 2 ^ suc found.exponent ≤ 2 ^ k = pow_mono l in
          absurd (omega (arith, above, pow-suc 2 found.exponent, first, found.power, found.reaches, e, least))
    ]
