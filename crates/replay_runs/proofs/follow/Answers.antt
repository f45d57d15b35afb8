-- `follow` meets its contract: the invariant is what it promises of where it ends.
use mathlib.Core.Path.{◌≡◌, refl, ap, ◌∙◌}
use native.Mathlib.Omega.{arith}
use Rattle.replay_runs.proofs.Events.{starts, chain, rank, nearer}
use Rattle.replay_runs.proofs.follow.Goals as goal

pub loop-at-init : goal.loop-at-init
loop-at-init c =
    let a = c.args in
    (starts a.header a.session a.events.now a.far.now a.near.now a.first a.envelope.now a.levels.now c.requires.1 c.requires.0, refl, refl, refl)

pub event-at-requires : goal.event-at-requires
event-at-requires c =
    let a = c.args in
    let l = c.loop-at in
    (l.invariant.0.calm c.loop-at-test.true, l.invariant.0.inside, l.invariant.2 ∙ c.requires.2, l.invariant.3 ∙ c.requires.3, omega (arith, l.invariant.1, c.requires.4), omega (arith, l.invariant.1, c.requires.5))

pub loop-at-smaller : goal.loop-at-smaller
loop-at-smaller c =
    let a = c.args in
    let l = c.loop-at in
    let e = c.event-at in
    let one : rank l.at.going ≡ 1 = ap rank c.loop-at-test.true in
    omega (arith, one, nearer a.header a.session a.events.now a.far.now a.near.now l.at l.envelope l.levels e.result _ _ e.result.going refl e.ensures)

pub loop-at-preserved : goal.loop-at-preserved
loop-at-preserved c =
    let a = c.args in
    let l = c.loop-at in
    let e = c.event-at in
    (chain a.header a.session a.events.now a.far.now a.near.now a.first a.envelope.now a.levels.now l.at l.envelope l.levels e.result _ _ l.invariant.0 e.ensures.follows, e.auto.samples ∙ l.invariant.1, e.auto.envelope ∙ l.invariant.2, e.auto.levels ∙ l.invariant.3)

pub shape_of-samples : goal.shape_of-samples
shape_of-samples c = c.loop-at.invariant.1

pub shape_of-envelope : goal.shape_of-envelope
shape_of-envelope c = c.loop-at.invariant.2

pub shape_of-levels : goal.shape_of-levels
shape_of-levels c = c.loop-at.invariant.3

pub returns : goal.returns
returns c = c.loop-at.invariant.0
