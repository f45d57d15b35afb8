use mathlib.Core.Path.{◌≡◌}
use Rattle.scan_push.specs.Onward.{onward}
use Rattle.scan_push.proofs.sums.run.Given as goal

abbrev pub invariant-loop-sample : goal.invariant-loop-sample
invariant-loop-sample l = l.sum ≡ onward l.start l.samples l.from l.sample-index
