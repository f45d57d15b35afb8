-- `far_turn` meets its contract: by what is at hand of its samples.
use mathlib.Core.Path.{sym, ◌∙◌}
use native.Mathlib.Omega.{arith}
use Rattle.replay_near.proofs.Decoding.{bytes_least}
use Rattle.replay_entry.proofs.Entries.{supply_there, far_pushed, far_awaited, far_lacking}
use Rattle.replay_entry.proofs.far_turn.Goals as goal

pub push_far-requires : goal.push_far-requires
push_far-requires c =
    let w = supply_there _ _ _ _ _ (sym c.of-s.ensures ∙ c.in-AtHand.is) in (c.requires.0, record { there = w.1; few = c.requires.1; room = omega (arith, w.1, bytes_least c.args.header.form c.args.count, c.requires.1, c.requires.2) }, omega (arith, w.0, c.ranges, c.well_formed))

pub returns-in-AtHand : goal.returns-in-AtHand
returns-in-AtHand c =
    λ b events near. rw (c.push_far.ensures.turns, c.push_far.ensures.leaves) (sym (far_pushed _ _ _ _ _ _ (sym c.of-s.ensures ∙ c.in-AtHand.is)))

pub returns-in-Awaited : goal.returns-in-Awaited
returns-in-Awaited c = λ b events near. rw c.waits.ensures (sym (far_awaited _ _ _ _ _ _ (sym c.of-s.ensures ∙ c.in-Awaited.is)))

pub returns-in-Lacking : goal.returns-in-Lacking
returns-in-Lacking c = λ b events near. rw c.bad.ensures (sym (far_lacking _ _ _ _ _ _ (sym c.of-s.ensures ∙ c.in-Lacking.is)))
