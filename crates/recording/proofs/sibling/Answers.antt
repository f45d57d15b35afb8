-- `recording::sibling` meets its contract.
use native.Mathlib.Omega.{arith}
use Rattle.answers.proofs.Cases.{cases}
use Rattle.answers.specs.Pick.{pick}
use Rattle.recording.proofs.sibling.Goals as goal

pub returns-in-1 : goal.returns-in-1
unfolding pick
returns-in-1 c = grind (arith, cases)

pub returns-in-2 : goal.returns-in-2
unfolding pick
returns-in-2 c = grind (arith, cases)

pub returns-in_default : goal.returns-in_default
unfolding pick
returns-in_default c = grind (arith, cases)
