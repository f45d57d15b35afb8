use mathlib.Core.Path.{◌≡◌}
use Rattle.scan.specs.Scoring.{rival_upto}
use Rattle.scan_decision.proofs.rival.Given as goal

abbrev pub invariant-loop-n : goal.invariant-loop-n
invariant-loop-n l = l.best ≡ rival_upto l.g l.averages l.k l.n
