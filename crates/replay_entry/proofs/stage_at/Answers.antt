-- `stage_at` meets its contract: by whether samples are left.
use Rattle.replay_entry.proofs.Entries.{midway_some}
use Rattle.replay_entry.proofs.stage_at.Goals as goal

pub returns : goal.returns
returns c = midway_some _ _ _ c.if-left-eq0.false
