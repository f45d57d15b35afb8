-- `through` meets its contract: what is answered behind the events is what is answered before them.
use mathlib.Core.Path.{refl, ap, ◌∙◌}
use lib.ListN.{length, length-drop}
use native.Mathlib.Omega.{arith}
use Rattle.scan_score.specs.Observing.{lent}
use Rattle.replay_runs.proofs.Silently.{rest_on}
use Rattle.replay_runs.proofs.Taking.{sum_inside, behind_events}
use Rattle.replay_runs.proofs.through.Goals as goal

pub follow-last-requires : goal.follow-last-requires
follow-last-requires c =
    let a = c.args in
    rw c.before-first.ensures (record { none = refl; judged = c.requires.0.judged; unfilled = c.requires.0.unfilled }, record { events = omega arith; far = omega arith; near = omega arith }, c.requires.1, c.requires.2, c.requires.3, c.requires.4)

pub behind-here-requires : goal.behind-here-requires
behind-here-requires c = (c.follow-last.ensures.few, c.follow-last.ensures.behind)

pub turn-t-requires : goal.turn-t-requires
turn-t-requires c =
    let a = c.args in
    let same = c.follow-last.auto.samples in
    let u = c.follow-last.result.bytes in
    (omega (arith, ap length (rest_on a.far.now u.far), length-drop u.far a.far.now, same, c.requires.3), omega (arith, ap length (rest_on a.near.now u.near), length-drop u.near a.near.now, same, c.requires.4))

pub on_top-requires : goal.on_top-requires
on_top-requires c =
    let a = c.args in
    let v = sum_inside a.header a.place (lent a.envelope.now a.levels.now a.window.now a.prefix.now a.squares.now a.scores.now a.lag_sums.now) a.events.now a.far.now a.near.now a.ended c.requires.0 a.envelope.now a.levels.now c.follow-last.result _ _ (rw c.before-first.ensures at c.follow-last.ensures) c.turn-t.result _ (rw c.behind-here.ensures at c.turn-t.ensures) in
    (omega (arith, v.events, c.well_formed), omega (arith, v.far, c.well_formed), omega (arith, v.near, c.well_formed))

pub shape_of-samples : goal.shape_of-samples
shape_of-samples c = c.turn-t.auto.samples ∙ c.follow-last.auto.samples

pub shape_of-envelope : goal.shape_of-envelope
shape_of-envelope c = c.turn-t.auto.envelope ∙ c.follow-last.auto.envelope

pub shape_of-levels : goal.shape_of-levels
shape_of-levels c = c.turn-t.auto.levels ∙ c.follow-last.auto.levels

pub returns : goal.returns
returns c =
    let a = c.args in
    rw c.on_top.ensures (behind_events a.header a.place (lent a.envelope.now a.levels.now a.window.now a.prefix.now a.squares.now a.scores.now a.lag_sums.now) a.events.now a.far.now a.near.now a.ended c.requires.0 a.envelope.now a.levels.now c.follow-last.result _ _ (rw c.before-first.ensures at c.follow-last.ensures) c.turn-t.result _ (rw c.behind-here.ensures at c.turn-t.ensures))
