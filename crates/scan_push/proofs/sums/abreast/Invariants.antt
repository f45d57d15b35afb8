use mathlib.Core.Path.{◌≡◌}
use Rattle.floats.specs.Functions.{zero64}
use Rattle.scan_push.specs.Onward.{onward}
use Rattle.scan_push.proofs.sums.abreast.Given as goal

abbrev pub invariant-loop-i : goal.invariant-loop-i
invariant-loop-i l = (l.first ≡ onward l.start l.samples 0 l.i) × (l.next ≡ onward zero64 l.samples l.m l.i)
