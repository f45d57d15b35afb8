-- `record_main::sides::move_all` is safe and ends: each part is not empty.
use mathlib.Core.Path.{◌≡◌}
use lib.ListN.{length}
use Rattle.record_main.proofs.sides.move_all.Given as goal

abbrev pub invariant-loop-left : goal.invariant-loop-left
invariant-loop-left l = (length l.frames ≡ length l.initial.frames) × (length l.room ≡ length l.initial.room)

abbrev pub decreases-loop-left : goal.decreases-loop-left
decreases-loop-left l = l.left
