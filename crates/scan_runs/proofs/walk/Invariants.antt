use Rattle.std.proofs.Common.{◌≡◌, ◌-◌, ◌^◌, ◌<◌, length}
use Rattle.scan.specs.declared.Far.{Far}
use Rattle.scan.specs.declared.Verdict.{Verdict}
use Rattle.scan_runs.specs.Ready.{Open, scan_of}
use Rattle.scan_runs.proofs.Going.{Going}
use Rattle.scan_runs.proofs.walk.Given as goal

abbrev pub invariant-loop-i : goal.invariant-loop-i
invariant-loop-i l =
    (length l.levels ≡ length l.initial.levels) × ((f : Far) (v : Verdict) → Open (scan_of l.g f l.initial.near v) l.initial.levels → Going (scan_of l.g f l.initial.near v) l.initial.levels l.samples l.first l.near l.levels l.index l.i) × (l.index < 2 ^ 64)

abbrev pub decreases-loop-i : goal.decreases-loop-i
decreases-loop-i l = length l.samples - l.i
