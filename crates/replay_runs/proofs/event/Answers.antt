-- `event` meets its contract: no event, a bad one, one to be played.
use mathlib.Core.Path.{sym, ◌∙◌}
use native.Mathlib.Omega.{arith}
use Rattle.replay_stream.proofs.Few.{good_few}
use Rattle.replay_runs.proofs.Events.{halts, entry_there}
use Rattle.replay_runs.proofs.event.Goals as goal

pub returns-then-at-header : goal.returns-then-at-header
returns-then-at-header c =
    let a = c.args in
    rw c.halt.ensures (halts a.header a.session a.events.now a.far.now a.near.now a.at a.envelope.now a.levels.now c.requires.1 c.requires.0)

pub play-requires : goal.play-requires
play-requires c =
    let a = c.args in
    let q = sym c.event_at.ensures ∙ c.in-Some.is in
    (c.requires.0, omega (arith, c.if-at-header.false, c.well_formed), omega (arith, entry_there a.events.now a.at.bytes.events _ c.requires.1.events q, c.well_formed), c.requires.1.far, c.requires.1.near, good_few _ _ _ q, c.requires.2, c.requires.3, c.requires.4, c.requires.5)

pub returns-in-None : goal.returns-in-None
returns-in-None c =
    let a = c.args in
    rw c.halt-in-None.ensures (halts a.header a.session a.events.now a.far.now a.near.now a.at a.envelope.now a.levels.now c.requires.1 c.requires.0)

pub returns-in-Some : goal.returns-in-Some
returns-in-Some c =
    let a = c.args in
    c.play.ensures a.events.now (record { some = omega (arith, c.if-at-header.false); entry = sym c.event_at.ensures ∙ c.in-Some.is; inside = c.requires.1 })
