-- `enter_near` meets its contract: all samples are left.
use Rattle.replay_entry.proofs.enter_near.Goals as goal

pub returns : goal.returns
returns c = rw (c.goes_on.ensures, c.stage_at-stage.ensures, c.next_with_scan-next.ensures)
