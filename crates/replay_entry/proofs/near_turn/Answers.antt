-- `near_turn` meets its contract: by what is at hand of its samples.
use mathlib.Core.Path.{sym, ◌∙◌}
use native.Mathlib.Omega.{arith}
use Rattle.replay_entry.proofs.Entries.{supply_there, near_entered, near_awaited, near_lacking}
use Rattle.replay_entry.proofs.near_turn.Goals as goal

pub enter_near-requires : goal.enter_near-requires
enter_near-requires c = let w = supply_there _ _ _ _ _ (sym c.of-s.ensures ∙ c.in-AtHand.is) in (c.requires.0, c.requires.1, omega (arith, w.0, c.ranges, c.well_formed))

pub returns-in-AtHand : goal.returns-in-AtHand
returns-in-AtHand c = λ b events far. rw c.enter_near.ensures (sym (near_entered _ _ _ _ _ _ _ (sym c.of-s.ensures ∙ c.in-AtHand.is)))

pub returns-in-Awaited : goal.returns-in-Awaited
returns-in-Awaited c = λ b events far. rw c.waits.ensures (sym (near_awaited _ _ _ _ _ _ _ (sym c.of-s.ensures ∙ c.in-Awaited.is)))

pub returns-in-Lacking : goal.returns-in-Lacking
returns-in-Lacking c = λ b events far. rw c.bad.ensures (sym (near_lacking _ _ _ _ _ _ _ (sym c.of-s.ensures ∙ c.in-Lacking.is)))
