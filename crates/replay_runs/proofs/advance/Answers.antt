-- `advance` meets its contract: with the events before the turn, and without.
use Rattle.scan_score.specs.Observing.{lent}
use Rattle.replay_runs.proofs.Taking.{only_turn}
use Rattle.replay_runs.proofs.advance.Goals as goal

pub through-requires : goal.through-requires
through-requires c =
    let a = c.args in
    let m = c.may_go.ensures c.if-may_go.true in
    (m.starts, m.envelope, m.levels, c.requires.0, c.requires.1)

pub returns-then-may_go : goal.returns-then-may_go
returns-then-may_go c = c.through.ensures

pub turn-requires : goal.turn-requires
turn-requires c =
    let a = c.args in
    (c.requires.0, c.requires.1)

pub returns : goal.returns
returns c =
    let a = c.args in
    only_turn a.header a.place (lent a.envelope.now a.levels.now a.window.now a.prefix.now a.squares.now a.scores.now a.lag_sums.now) a.events.now a.far.now a.near.now a.ended c.turn.result _ c.turn.ensures
