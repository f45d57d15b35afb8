-- `==` of lengths and what the span gives is `same_lengths`: both have the same span.
use mathlib.Core.Bool.{Bool, true, false, ◌&&◌}
use mathlib.Core.Path.{◌≡◌, refl}
use lib.Dec.{eqb}
use borrow.Author.Tests.{eq-eqb}
use Rattle.answers.specs.Pick.{pick, both}
use Rattle.fine.specs.State.{lengths_of, same_lengths}
use Rattle.fine.specs.declared.Lengths.{Lengths}

and_both : (a b : Bool) → (a && b) ≡ both a b
unfolding pick
and_both true b = refl
and_both false b = refl

pub due_eq : (l due : Lengths) → due ≡ lengths_of l.span → (eqb l.span due.span && (eqb l.transform due.transform && eqb l.frame due.frame)) ≡ same_lengths l (lengths_of l.span)
unfolding same_lengths lengths_of
due_eq l due e = rw e (rw (eq-eqb l.span l.span refl) (and_both _ _))
