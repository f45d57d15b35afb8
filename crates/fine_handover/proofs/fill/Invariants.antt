use mathlib.Core.Path.{◌≡◌}
use lib.ListN.{length}
use lib.Seq.{paste}
use Rattle.fine_handover.proofs.fill.Given as goal

abbrev pub invariant-loop-i : goal.invariant-loop-i
invariant-loop-i l = (length l.near ≡ length l.initial.near) × (l.near ≡ paste l.initial.near l.at l.samples l.i)
