-- `Tracker::unfinished` meets its contract.
use native.Mathlib.Omega.{arith}
use Rattle.std.proofs.lemmas.Bool.Decides.{nat_tests}
use Rattle.answers.proofs.Cases.{picks}
use Rattle.tracker.specs.Tracker.{unfinished}
use Rattle.tracker.proofs.Tracker.unfinished.Goals as goal

pub returns-then-self-ne0-3 : goal.returns-then-self-ne0-3
unfolding unfinished
returns-then-self-ne0-3 c = grind (arith, nat_tests, picks)

pub returns-else-self-ne0-3 : goal.returns-else-self-ne0-3
unfolding unfinished
returns-else-self-ne0-3 c = grind (arith, nat_tests, picks)
