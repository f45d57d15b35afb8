use mathlib.Core.Path.{◌≡◌}
use Prim.Native.Nat.{◌-◌}
use lib.ListN.{length}
use Rattle.convert_side.specs.Side.{Fits}
use Rattle.convert_host.proofs.judging.all.Given as goal

abbrev pub invariant-loop-header : goal.invariant-loop-header
invariant-loop-header l = (Fits l.j.side) × (length l.room ≡ length l.initial.room)

abbrev pub decreases-loop-header : goal.decreases-loop-header
decreases-loop-header l = l.header.events - l.number
