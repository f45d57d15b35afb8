use Rattle.std.proofs.Common.{◌≡◌}
use Rattle.folds.specs.Sums.{upto}
use Rattle.fine_peak.specs.Peak.{crest_of, height}
use Rattle.fine_peak.proofs.survey.Given as goal

abbrev pub invariant-loop-k : goal.invariant-loop-k
invariant-loop-k l =
    (l.crest ≡ crest_of (height l.correlation) l.k) × (l.total ≡ upto (height l.correlation) l.k)
