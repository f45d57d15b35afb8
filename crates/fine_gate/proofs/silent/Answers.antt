use Rattle.std.proofs.Common.{arith}
use Rattle.answers.proofs.Cases.{cases}
use Rattle.answers.specs.Pick.{pick}
use Rattle.fine_gate.specs.Gate.{silent}
use Rattle.fine_gate.proofs.silent.Goals as goal

pub returns-then-energy : goal.returns-then-energy
unfolding silent pick
returns-then-energy c = grind (arith, cases, c.energy.ensures)

pub returns-else-energy : goal.returns-else-energy
unfolding silent pick
returns-else-energy c = grind (arith, cases, c.energy.ensures, c.energy-else-energy.ensures)
