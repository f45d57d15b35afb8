use Rattle.std.proofs.Common.{arith}
use Rattle.answers.proofs.Cases.{cases}
use Rattle.answers.specs.Pick.{pick}
use Rattle.fine_gate.specs.Gate.{skips}
use Rattle.fine_gate.proofs.skips.Goals as goal

pub returns-then-missing_head-gt0 : goal.returns-then-missing_head-gt0
unfolding skips pick
returns-then-missing_head-gt0 c = grind (arith, cases)

pub returns-else-missing_head-gt0 : goal.returns-else-missing_head-gt0
unfolding skips pick
returns-else-missing_head-gt0 c = grind (arith, cases)
