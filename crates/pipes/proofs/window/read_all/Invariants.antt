use Rattle.std.proofs.Common.{◌≡◌, length}
use Rattle.pipes.specs.Window.{Within}
use Rattle.pipes.proofs.window.read_all.Given as goal

abbrev pub invariant-loop-from : goal.invariant-loop-from
invariant-loop-from l = (Within l.next) × (length l.room ≡ 65536)

abbrev pub decreases-loop-from : goal.decreases-loop-from
decreases-loop-from l = l.next.left
