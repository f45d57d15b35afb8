-- `events::with_frame` meets its contract.
use Rattle.replay.proofs.events.with_frame.Goals as goal

pub returns : goal.returns
returns c = rw c.saturating_add.ensures
