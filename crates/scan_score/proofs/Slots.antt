-- The slot of the next bin: one further, or from the start again. Whether a table of bins is finite, one bin further.
use Prim.Native.Nat.{ℕ, zero, suc, ◌+◌, ◌%◌, ◌<◌}
use mathlib.Core.Path.{◌≡◌, refl, sym, ap, ◌∙◌}
use mathlib.Core.Bool.{Bool, true, false}
use mathlib.Core.List.{List, [], ◌∷◌, ◌++◌}
use mathlib.Core.Logic.{⊎_elim}
use native.Mathlib.Nat.{mod-lt, mod-eq_of_lt, mod-add-mod, mod_self, eq-or-lt_of_le, not-suc-le-zero, le_of_suc-le-suc}
use native.Mathlib.Numerals.{add-one}
use lib.Ieee.{Float}
use lib.Ieee.Scale.{finite}
use Rattle.answers.specs.Pick.{pick, both}
use Rattle.folds.specs.Sums.{table, all_finite}

slot_is : (slot n j : ℕ) → slot ≡ j % n → (slot + 1) % n ≡ (j + 1) % n
slot_is slot n j e = ap (λ (s : ℕ). (s + 1) % n) e ∙ mod-add-mod j n 1

pub further : (slot n j : ℕ) → slot + 1 < n → slot ≡ j % n → slot + 1 ≡ (j + 1) % n
further slot n j h e = sym (mod-eq_of_lt h) ∙ slot_is slot n j e

pub wraps : (slot n j : ℕ) → slot + 1 ≡ n → slot ≡ j % n → 0 ≡ (j + 1) % n
wraps slot n j h e = sym (mod_self n) ∙ ap (λ (s : ℕ). s % n) (sym h) ∙ slot_is slot n j e

-- a slot lies inside the envelope
pub in_slot : (slot n j : ℕ) → slot ≡ j % n → 0 < n → slot < n
in_slot slot n j e h = rw e (mod-lt j h)

-- ---- finite bins

alone : (b : Bool) → both b true ≡ b
unfolding pick
alone true = refl
alone false = refl

never : (b : Bool) → both b false ≡ false
unfolding pick
never true = refl
never false = refl

under : (b u v w : Bool) → u ≡ both v w → both b u ≡ both (both b v) w
unfolding pick
under true u v w e = e
under false u v w e = refl

appended : (xs : List Float) (y : Float) → all_finite (xs ++ (y ∷ [])) ≡ both (all_finite xs) (finite y)
unfolding all_finite pick
appended [] y = alone (finite y)
appended (x ∷ xs) y = under (finite x) _ _ _ (appended xs y)

tabled : (f : ℕ → Float) (n : ℕ) → all_finite (table f (suc n)) ≡ both (all_finite (table f n)) (finite (f n))
unfolding table
tabled f n = appended (table f n) (f n)

pub none_read : (f : ℕ → Float) → all_finite (table f 0) ≡ true
unfolding table all_finite
none_read f = refl

pub one_more_finite : (f : ℕ → Float) (n : ℕ) (x : Float) → x ≡ f n → finite x ≡ true → all_finite (table f n) ≡ true → all_finite (table f (n + 1)) ≡ true
unfolding pick
one_more_finite f n x e h t = rw (add-one, tabled f n, t, ← e) h

pub one_not_finite : (f : ℕ → Float) (i n : ℕ) (x : Float) → i < n → x ≡ f i → finite x ≡ false → false ≡ all_finite (table f n)
unfolding pick
one_not_finite f i zero x l e h = absurd (not-suc-le-zero l)
one_not_finite f i (suc n) x l e h =
    ⊎_elim
    (λ (m : i ≡ n). sym (tabled f n ∙ ap (both (all_finite (table f n))) (ap (λ (k : ℕ). finite (f k)) (sym m) ∙ ap finite (sym e) ∙ h) ∙ never (all_finite (table f n))))
    (λ (m : i < n). sym (tabled f n ∙ ap (λ (b : Bool). both b (finite (f n))) (sym (one_not_finite f i n x m e h))))
    (eq-or-lt_of_le (le_of_suc-le-suc l))
