use Rattle.answers.proofs.Cases.{picks}
use Rattle.fine_peak.specs.Peak.{ruled}
use Rattle.fine_peak.proofs.rule.Goals as goal

pub returns-then-weak : goal.returns-then-weak
unfolding ruled
returns-then-weak c = simp (picks, c.record_scan-recorded.ensures, c.ratio-height.ensures, ← c.weak.ensures, c.if-weak.true)

pub returns : goal.returns
unfolding ruled
returns c = simp (picks, c.record_scan-recorded.ensures, c.lock_at.ensures, c.ratio-height.ensures, ← c.weak.ensures, c.if-weak.false)
