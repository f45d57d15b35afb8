use Rattle.answers.proofs.Cases.{cases}
use Rattle.fine.specs.Calls.{last_scan_peak_at}
use Rattle.fine.proofs.Fine.last_scan_peak_at.Goals as goal

pub returns-then-refusal-ne0 : goal.returns-then-refusal-ne0
unfolding last_scan_peak_at
returns-then-refusal-ne0 c = search (cases, ← c.refusal-refusal.ensures)

pub returns : goal.returns
unfolding last_scan_peak_at
returns c = search (cases, ← c.refusal-refusal.ensures)
