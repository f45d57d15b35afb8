use Rattle.std.proofs.Common.{arith}
use Rattle.answers.proofs.Cases.{cases}
use Rattle.answers.specs.Pick.{pick}
use Rattle.fine.proofs.Laws.{due_window, due_window_fits}
use Rattle.fine_gate.specs.Gate.{rescan_lengths}
use Rattle.fine_gate.proofs.fits_rescan.Goals as goal

pub returns-then-is_frame : goal.returns-then-is_frame
unfolding rescan_lengths pick
returns-then-is_frame c = let window = due_window _ _ c.requires in grind (arith, cases, c.is_frame.ensures, window)

pub returns-else-is_frame : goal.returns-else-is_frame
unfolding rescan_lengths pick
returns-else-is_frame c = grind (arith, cases, c.is_frame.ensures)

pub overflow_add-result : goal.overflow_add-result
overflow_add-result c = due_window_fits _ _ c.requires c.ranges.span
