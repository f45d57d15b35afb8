-- `replay_loop::all` meets its contract. No turn changes the length of a lent list.
use mathlib.Core.Path.{◌∙◌}
use Rattle.replay_loop.proofs.Looping.{begun, goes, still_within}
use Rattle.replay_loop.proofs.all.Goals as goal

pub loop-turn-init : goal.loop-turn-init
loop-turn-init c = (c.requires.0, c.requires.4, begun _ _ _ _ _ _ _)

pub returns-then-not-goes_on : goal.returns-then-not-goes_on
returns-then-not-goes_on c = (c.loop-turn.invariant.2, c.loop-turn.invariant.1)

pub turn-stream-requires : goal.turn-stream-requires
turn-stream-requires c =
    let loop = c.loop-turn in
    (loop.invariant.0, loop.auto.events ∙ c.requires.1, loop.auto.far ∙ c.requires.2, loop.auto.near ∙ c.requires.3, loop.invariant.1)

pub loop-turn-preserved : goal.loop-turn-preserved
loop-turn-preserved c =
    let turn = c.turn-stream in
    let go = c.goes_on.ensures c.if-not-goes_on.false in
    (still_within turn.ensures.0, turn.ensures.1, goes c.loop-turn.invariant.2 go.0 go.1 turn.ensures.0)

pub returns : goal.returns
returns c = (c.loop-turn.invariant.2, c.loop-turn.invariant.1)
