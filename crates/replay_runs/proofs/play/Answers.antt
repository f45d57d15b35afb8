-- `play` meets its contract: arm by arm.
use Rattle.replay_runs.proofs.Events.{halts}
use Rattle.replay_runs.proofs.play.Goals as goal

pub event-requires : goal.event-requires
event-requires c =
    let a = c.args in
    (c.requires.0, c.requires.1, c.requires.2, c.requires.3, rw c.in-Far.is at c.requires.5, c.requires.8, c.requires.6)

pub event-requires-in-Near : goal.event-requires-in-Near
event-requires-in-Near c =
    let a = c.args in
    (c.requires.0, c.requires.1, c.requires.2, c.requires.4, rw c.in-Near.is at c.requires.5, c.requires.9, c.requires.7)

pub returns-in-Far : goal.returns-in-Far
returns-in-Far c =
    let a = c.args in
    λ ev bef. c.event.ensures ev a.near.now a.levels.now (rw c.in-Far.is at bef)

pub returns-in-Near : goal.returns-in-Near
returns-in-Near c =
    let a = c.args in
    λ ev bef. c.event-in-Near.ensures ev a.far.now a.envelope.now (rw c.in-Near.is at bef)

pub returns-in-Rearm : goal.returns-in-Rearm
returns-in-Rearm c =
    let a = c.args in
    λ ev bef. rw c.halt.ensures (halts a.header a.session ev a.far.now a.near.now a.at a.envelope.now a.levels.now bef.inside c.requires.0)
