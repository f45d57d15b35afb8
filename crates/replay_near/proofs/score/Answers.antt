-- `score` meets its contract: what `observe` leaves is told.
use Rattle.replay.specs.Events.{score_played}
use Rattle.replay_near.proofs.score.Goals as goal

pub returns : goal.returns
unfolding score_played
returns c =
    rw (← c.observe-seen.ensures) (c.scored.ensures _)
