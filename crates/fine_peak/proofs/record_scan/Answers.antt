use Rattle.fine_peak.proofs.record_scan.Goals as goal

pub returns : goal.returns
returns c = simp c.saturating_add.ensures
