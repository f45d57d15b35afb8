-- `parts_walks::sorts::all` meets its contract. No turn changes the length of a lent list.
use mathlib.Core.Path.{refl, ◌∙◌}
use Rattle.parts_walks.proofs.Counting.{begun, goes_on}
use Rattle.parts_walks.proofs.sorts.all.Goals as goal

pub loop-init : goal.loop-init
loop-init c =
    (c.requires.0, refl, refl, c.requires.1, c.requires.2, begun _ _ _ _)

pub returns-then-not-goes_on : goal.returns-then-not-goes_on
returns-then-not-goes_on c = c.loop.invariant.5

pub loop-preserved : goal.loop-preserved
loop-preserved c =
    let turn = c.turn-walk in
    let loop = c.loop in
    let done = turn.ensures.done in
    let first = turn.auto.first in
    let second = turn.auto.second in (
      record { first = done.first.within; second = done.second.within },
      first ∙ loop.invariant.1,
      second ∙ loop.invariant.2,
      first ∙ loop.invariant.3,
      second ∙ loop.invariant.4,
      goes_on loop.invariant.5 turn.ensures,
    )

pub returns : goal.returns
returns c = c.loop.invariant.5
