use Rattle.fine_peak.proofs.lock_at.Goals as goal

pub returns : goal.returns
returns c = simp c.saturating_sub.ensures
