-- A definition by `pick`, as code goes through it: a call gives the test's answer r, and a branch on r picks. `both`, `require`, `before` and `unless` are picks.
use Prim.Native.Nat.{ℕ}
use mathlib.Core.Path.{◌≡◌, refl, sym, ◌∙◌}
use mathlib.Core.Bool.{Bool, true, false, not, false≢true}
use lib.Dec.{eqb}
use borrow.Author.Tests.{not-true, not-false, eq-eqb, ne_eqb}
use Rattle.answers.specs.Pick.{pick, both, pick_true, pick_false}
use Rattle.answers.specs.Refusals.{require, before, if_refused}

module _ {r t : Bool} (is : r ≡ t) where
  pub yes : {A : Type 0} {a x : A} (b : A) → r ≡ true → x ≡ a → x ≡ pick t a b
  yes b h e = e ∙ sym (pick_true t _ b (sym is ∙ h))

  pub no : {A : Type 0} {b x : A} (a : A) → r ≡ false → x ≡ b → x ≡ pick t a b
  no a h e = e ∙ sym (pick_false t a _ (sym is ∙ h))

  -- `if !r` refuses
  pub refuses : (n rest : ℕ) → not r ≡ true → n ≡ require t n rest
  refuses n rest h = no rest (not-true r h) refl

  pub passes : (n : ℕ) {rest x : ℕ} → not r ≡ false → x ≡ rest → x ≡ require t n rest
  passes n h e = yes n (not-false r h) e

-- the test `if a != b`
pub equal : {a b : ℕ} {u x : Bool} → a ≡ b → x ≡ u → x ≡ both (eqb a b) u
equal {a} {b} h e = yes refl false (eq-eqb a b h) e

-- the refusal number is n
module _ {n number : ℕ} (is : n ≡ number) where
  pub turned_down : {A : Type 0} {a x : A} (b : A) → (n ≡ 0 → ⊥) → x ≡ a → x ≡ if_refused number a b
  turned_down b h e = no refl b (ne_eqb number 0 (λ (z : number ≡ 0). h (is ∙ z))) e

  pub accepted : {A : Type 0} {b x : A} (a : A) → n ≡ 0 → x ≡ b → x ≡ if_refused number a b
  accepted a h e = yes refl a (eq-eqb number 0 (sym is ∙ h)) e

  pub earlier : (rest : ℕ) → (n ≡ 0 → ⊥) → n ≡ before number rest
  earlier rest h = turned_down rest h is

  pub later : {rest x : ℕ} → n ≡ 0 → x ≡ rest → x ≡ before number rest
  later h e = accepted number h e

-- ---- what a chain that holds says of its parts

pub first : (a b : Bool) → both a b ≡ true → a ≡ true
unfolding pick
first true b e = refl
first false b e = e

pub second : (a b : Bool) → both a b ≡ true → b ≡ true
unfolding pick
second true b e = e
second false b e = absurd (false≢true e)
