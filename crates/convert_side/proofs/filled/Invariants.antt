use mathlib.Core.Path.{◌≡◌}
use lib.ListN.{length}
use Rattle.pipes.specs.Window.{Within}
use Rattle.convert_side.proofs.filled.Given as goal

abbrev pub invariant-loop-from : goal.invariant-loop-from
invariant-loop-from l = (Within l.next) × (length l.room ≡ length l.initial.room)

abbrev pub decreases-loop-from : goal.decreases-loop-from
decreases-loop-from l = l.next.left
