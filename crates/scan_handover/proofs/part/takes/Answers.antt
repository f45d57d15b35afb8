-- `scan_handover::part::takes` meets its contract.
use native.Mathlib.Omega.{arith}
use Rattle.scan_handover.proofs.Calls.{wants_most}
use Rattle.scan_handover.proofs.part.takes.Goals as goal

pub overflow_add-lead : goal.overflow_add-lead
overflow_add-lead c = omega (arith, c.wants.ensures, wants_most c.args.g c.args.n c.requires.0.bounds, c.requires.1)
