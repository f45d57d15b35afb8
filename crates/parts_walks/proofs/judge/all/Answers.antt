-- `parts_walks::judge::all` meets its contract. No turn changes the length of a lent list.
use mathlib.Core.Path.{refl, ◌∙◌}
use Rattle.parts_walks.proofs.Judging.{begun, goes_on}
use Rattle.parts_walks.proofs.judge.all.Goals as goal

pub loop-init : goal.loop-init
loop-init c =
    (c.requires.0, refl, c.requires.1, begun _ _)

pub returns-then-not-goes_on : goal.returns-then-not-goes_on
returns-then-not-goes_on c = (c.loop.invariant.0, c.loop.invariant.3)

pub loop-preserved : goal.loop-preserved
loop-preserved c =
    let turn = c.turn-stand in
    let loop = c.loop in
    (turn.ensures.0, turn.auto.room ∙ loop.invariant.1, turn.auto.room ∙ loop.invariant.2, goes_on loop.invariant.3 turn.ensures.1)

pub returns : goal.returns
returns c = (c.loop.invariant.0, c.loop.invariant.3)
