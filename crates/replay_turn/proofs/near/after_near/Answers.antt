-- `near::after_near` meets its contract: by the stage.
use Rattle.replay_turn.proofs.near.after_near.Goals as goal

pub returns : goal.returns
returns c = rw (c.stage_at.ensures, c.bytes_of.ensures)
