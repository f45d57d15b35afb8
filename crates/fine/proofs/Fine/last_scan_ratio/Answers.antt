use Rattle.answers.proofs.Cases.{cases}
use Rattle.fine.specs.Calls.{last_scan_ratio}
use Rattle.fine.proofs.Fine.last_scan_ratio.Goals as goal

pub returns-then-refusal-ne0 : goal.returns-then-refusal-ne0
unfolding last_scan_ratio
returns-then-refusal-ne0 c = search (cases, ← c.refusal-refusal.ensures)

pub returns : goal.returns
unfolding last_scan_ratio
returns c = search (cases, ← c.refusal-refusal.ensures)
