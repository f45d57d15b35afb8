use mathlib.Core.Path.{◌≡◌}
use lib.ListN.{length}
use Rattle.scan_handover.proofs.Gathers.{Going}
use Rattle.scan_handover.proofs.fill.all.Given as goal

abbrev pub invariant-loop-rest : goal.invariant-loop-rest
invariant-loop-rest l =
    (length l.levels ≡ length l.initial.levels) × Going l.g (record { near = l.initial.n; levels = l.initial.levels }) l.samples l.index (record { near = l.n; levels = l.levels }) l.rest l.at

abbrev pub decreases-loop-rest : goal.decreases-loop-rest
decreases-loop-rest l = length l.rest
