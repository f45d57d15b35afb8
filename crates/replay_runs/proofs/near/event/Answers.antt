-- `event` meets its contract: by what is at hand of its samples.
use Prim.Native.Nat.{◌-◌}
use mathlib.Core.Path.{◌≡◌, sym, ap, ◌∙◌}
use native.Mathlib.Omega.{arith}
use lib.ListN.{length, take, drop, length-drop}
use Rattle.replay_near.proofs.Decoding.{bytes_least}
use Rattle.replay_entry.proofs.Entries.{supply_there}
use Rattle.replay_runs.proofs.Silently.{rest_on}
use Rattle.replay_runs.proofs.Events.{halts}
use Rattle.replay_runs.proofs.near.event.Goals as goal

pub take-requires : goal.take-requires
take-requires c =
    let a = c.args in
    let w = supply_there _ _ _ _ _ (sym c.of-s.ensures ∙ c.in-AtHand.is) in
    let there : length (take (length a.near.now - a.at.bytes.near) (drop a.at.bytes.near a.near.now)) ≡ length a.near.now - a.at.bytes.near = ap length (rest_on a.near.now a.at.bytes.near) ∙ length-drop a.at.bytes.near a.near.now in
    (c.requires.0, c.requires.1, c.requires.2, record { total = w.0; there = omega (arith, w.1, there, c.requires.3); few = c.requires.4; room = omega (arith, w.1, there, bytes_least a.header.form a.count, c.requires.3, c.requires.4, c.requires.5) }, c.requires.6)

pub returns-in-Awaited : goal.returns-in-Awaited
returns-in-Awaited c =
    let a = c.args in
    λ ev fr e bef. rw c.halt.ensures (halts a.header a.session ev fr a.near.now a.at e a.levels.now bef.inside c.requires.0)
