-- `play` meets its contract: arm by arm.
use mathlib.Core.Path.{sym}
use Rattle.scan_score.specs.Observing.{lent}
use Rattle.replay_stream.specs.Giving.{piece, hand_of}
use Rattle.replay_entry.proofs.Entries.{rearm_is, discard_is, unconfident_is, interior_is, edge_is, seam_is}
use Rattle.replay_entry.proofs.play.Goals as goal

pub far_turn-requires : goal.far_turn-requires
far_turn-requires c =
    (c.requires.0, rw c.in-Far.is at c.requires.1, c.requires.2)

pub near_turn-requires : goal.near_turn-requires
near_turn-requires c =
    (c.requires.0, rw c.in-Near.is at c.requires.1)

pub returns-in-Far : goal.returns-in-Far
returns-in-Far c =
    λ events l w p q t. let a = c.args in rw c.in-Far.is (c.far_turn.ensures (lent a.envelope.now l w p q t a.lag_sums.now) (piece events a.ended.events) (piece a.near.now a.ended.near))

pub returns-in-Near : goal.returns-in-Near
returns-in-Near c =
    λ events l w p q t. let a = c.args in rw c.in-Near.is (c.near_turn.ensures (lent a.envelope.now l w p q t a.lag_sums.now) (piece events a.ended.events) (piece a.far.now a.ended.far))

pub returns-in-Rearm : goal.returns-in-Rearm
returns-in-Rearm c =
    λ events l w p q t. let a = c.args in rw (c.in-Rearm.is, c.changed.ensures, c.rearm-change.ensures.changed, c.rearm-change.ensures.sums) (sym (rearm_is a.header a.number a.session (lent a.envelope.now l w p q t a.lag_sums.now) (hand_of events a.far.now a.near.now a.ended)))

pub returns-in-DiscardNear : goal.returns-in-DiscardNear
returns-in-DiscardNear c =
    λ events l w p q t. let a = c.args in rw (c.in-DiscardNear.is, c.changed-in-DiscardNear.ensures, c.discard_near-change.ensures.changed, c.discard_near-change.ensures.sums) (sym (discard_is a.header a.number a.session (lent a.envelope.now l w p q t a.lag_sums.now) (hand_of events a.far.now a.near.now a.ended)))

pub returns-in-Unconfident : goal.returns-in-Unconfident
returns-in-Unconfident c =
    λ events l w p q t. let a = c.args in rw (c.in-Unconfident.is, c.cycle.ensures) (sym (unconfident_is a.header a.number a.session (lent a.envelope.now l w p q t a.lag_sums.now) (hand_of events a.far.now a.near.now a.ended)))

pub returns-in-Interior : goal.returns-in-Interior
returns-in-Interior c =
    λ events l w p q t. let a = c.args in rw (c.in-Interior.is, c.cycle-in-Interior.ensures) (sym (interior_is a.header a.number a.session (lent a.envelope.now l w p q t a.lag_sums.now) (hand_of events a.far.now a.near.now a.ended) _ _))

pub returns-in-Edge : goal.returns-in-Edge
returns-in-Edge c =
    λ events l w p q t. let a = c.args in rw (c.in-Edge.is, c.cycle-in-Edge.ensures) (sym (edge_is a.header a.number a.session (lent a.envelope.now l w p q t a.lag_sums.now) (hand_of events a.far.now a.near.now a.ended) _ _))

pub returns-in-Discontinuity : goal.returns-in-Discontinuity
returns-in-Discontinuity c =
    λ events l w p q t. let a = c.args in rw (c.in-Discontinuity.is, c.discontinuity.ensures) (sym (seam_is a.header a.number a.session (lent a.envelope.now l w p q t a.lag_sums.now) (hand_of events a.far.now a.near.now a.ended)))
