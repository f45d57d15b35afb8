-- `tracker_words::answering::tell_verdict` meets its contract.
use Rattle.answers.proofs.Cases.{cases}
use mathlib.Core.Path.{◌≡◌, refl}
use mathlib.Core.List.{[]}
use Rattle.tracker.specs.declared.Trigger.{Trigger}
use Rattle.tracker.specs.declared.Trigger.TheVariants.{Edge, Lost, Jump, Seam}
use Rattle.tracker.specs.Told.{reacquire}
use Rattle.words.specs.Answers.{number, values_of, put_from}
use borrow.Author.Rules.{rules}
use Rattle.tracker_words.proofs.answering.tell_verdict.Goals as goal

-- a trigger has no values
no-values : (w : Trigger) → values_of (reacquire w) ≡ []
unfolding values_of
no-values Edge = refl
no-values Lost = refl
no-values Jump = refl
no-values Seam = refl

pub returns-in-Refused : goal.returns-in-Refused
unfolding number values_of put_from
returns-in-Refused c = record { number = search rules; values = search rules }

pub returns-in-Hold : goal.returns-in-Hold
unfolding number values_of put_from
returns-in-Hold c = record { number = search rules; values = search rules }

pub returns-in-Move : goal.returns-in-Move
unfolding number values_of put_from
returns-in-Move c = record { number = search (cases, c.in-Move.is); values = search (cases, c.in-Move.is) }

pub returns-in-Reacquire : goal.returns-in-Reacquire
unfolding put_from
returns-in-Reacquire c =
    record {
      number = search (cases, ← c.trigger_number.ensures, c.in-Reacquire.is);
      values = search (cases, c.in-Reacquire.is, no-values);
    }
