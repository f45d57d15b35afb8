use Rattle.std.proofs.Common.{arith}
use Rattle.answers.proofs.Cases.{cases}
use Rattle.answers.specs.Pick.{pick}
use Rattle.fine_gate.specs.Gate.{gate_lengths}
use Rattle.fine_gate.proofs.fits_gate.Goals as goal

pub returns-then-is_frame : goal.returns-then-is_frame
unfolding gate_lengths pick
returns-then-is_frame c = grind (arith, cases, c.is_frame.ensures, c.fits_rescan.ensures)

pub returns-else-is_frame : goal.returns-else-is_frame
unfolding gate_lengths pick
returns-else-is_frame c = grind (arith, cases, c.is_frame.ensures)
