-- `scan_decision::verdict_by` meets its contract.
use Rattle.floats.proofs.Laws.{narrow_only}
use Rattle.scan_decision.proofs.verdict_by.Goals as goal

pub returns : goal.returns
returns c =
    rw (c.exhausted_by.ensures, c.beyond_by.ensures, narrow_only c.args.peak c.narrowed.result c.narrowed.ensures, c.found_by-found.ensures, c.saturating_add-frames.ensures)
