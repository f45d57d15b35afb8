-- What `!=` of two bands says of `same_bands`.
use mathlib.Core.Bool.{Bool, true, false, not, ◌&&◌}
use mathlib.Core.Path.{◌≡◌, refl, sym, ◌∙◌}
use native.Mathlib.Omega.{arith}
use lib.Dec.{eqb}
use Rattle.answers.specs.Pick.{pick, both}
use Rattle.tracker.specs.declared.Bands.{Bands}
use Rattle.tracker.specs.Tracker.{same_bands}

and_both : (a b : Bool) → (a && b) ≡ both a b
unfolding pick
and_both true b = refl
and_both false b = refl

abbrev all_eq : Bands → Bands → Bool
all_eq a b = eqb a.late b.late && (eqb a.early b.early && (eqb a.agree b.agree && (eqb a.apart b.apart && eqb a.lead b.lead)))

all_eq_same : (a b : Bands) → all_eq a b ≡ same_bands a b
unfolding same_bands
all_eq_same a b = simp and_both

not_back : (x y : Bool) → not x ≡ y → x ≡ not y
not_back true y e = grind arith
not_back false y e = grind arith

pub same_unless : (a b : Bands) (differ r : Bool) → differ ≡ not (all_eq a b) → differ ≡ r → same_bands a b ≡ not r
same_unless a b differ r e h = sym (all_eq_same a b) ∙ not_back _ _ (sym e ∙ h)
