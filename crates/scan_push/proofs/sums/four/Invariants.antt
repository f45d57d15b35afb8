use Prim.Native.Nat.{◌+◌}
use mathlib.Core.Path.{◌≡◌}
use Rattle.floats.specs.Functions.{zero64}
use Rattle.scan_push.specs.Onward.{onward}
use Rattle.scan_push.proofs.sums.four.Given as goal

abbrev pub invariant-loop-i : goal.invariant-loop-i
invariant-loop-i l =
    (l.first ≡ onward l.start l.samples 0 l.i) × (l.second ≡ onward zero64 l.samples l.d l.i) × (l.third ≡ onward zero64 l.samples (l.d + l.d) l.i) × (l.fourth ≡ onward zero64 l.samples (l.d + l.d + l.d) l.i)
