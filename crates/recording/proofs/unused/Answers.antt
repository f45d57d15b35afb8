-- `recording::unused` meets its contract.
use native.Mathlib.Omega.{arith}
use Rattle.answers.proofs.Cases.{cases}
use Rattle.answers.specs.Pick.{pick}
use Rattle.recording.proofs.unused.Goals as goal

pub returns-then-count-eq0 : goal.returns-then-count-eq0
unfolding pick
returns-then-count-eq0 c = grind (arith, cases)

pub returns-else-count-eq0 : goal.returns-else-count-eq0
unfolding pick
returns-else-count-eq0 c = grind (arith, cases)
