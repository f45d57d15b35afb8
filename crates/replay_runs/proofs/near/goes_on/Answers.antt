-- `goes_on` meets its contract: by the two tests.
use Rattle.std.proofs.Common.{arith}
use Rattle.answers.specs.Pick.{pick}
use Rattle.answers.proofs.Cases.{cases}
use Rattle.replay_runs.proofs.near.goes_on.Goals as goal

pub returns-then-left-eq0 : goal.returns-then-left-eq0
unfolding pick
returns-then-left-eq0 c = grind (arith, cases)

pub returns-else-left-eq0 : goal.returns-else-left-eq0
unfolding pick
returns-else-left-eq0 c = grind (arith, cases)
