use Rattle.std.proofs.Common.{arith}
use Rattle.answers.proofs.Cases.{cases}
use Rattle.answers.specs.Pick.{pick}
use Rattle.fine_gate.specs.Gate.{readable}
use Rattle.fine_gate.proofs.readable.Goals as goal

pub returns-then-skips : goal.returns-then-skips
unfolding readable pick
returns-then-skips c = grind (arith, cases, c.skips.ensures)

pub returns-then-all_finite : goal.returns-then-all_finite
unfolding readable pick
returns-then-all_finite c = grind (arith, cases, c.skips.ensures, c.all_finite.ensures, c.all_finite-then-all_finite.ensures)

pub returns-else-all_finite : goal.returns-else-all_finite
unfolding readable pick
returns-else-all_finite c = grind (arith, cases, c.skips.ensures, c.all_finite.ensures)
