use Rattle.std.proofs.Common.{◌≡◌, drop}
use Rattle.scan_runs.specs.Ready.{total_of}
use Rattle.scan_runs.proofs.total.Given as goal

abbrev pub invariant-loop-sample : goal.invariant-loop-sample
invariant-loop-sample l = total_of l.total (drop l.sample-index l.samples) ≡ total_of l.sum l.samples
