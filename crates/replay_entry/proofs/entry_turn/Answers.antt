-- `entry_turn` meets its contract: an entry that is still to come, a bad one, one to be played.
use mathlib.Core.Path.{sym, ap, ◌∙◌}
use Rattle.scan_score.specs.Observing.{lent}
use Rattle.answers.specs.Pick.{pick_true, pick_false}
use Rattle.replay_stream.specs.Stream.{entry_turn}
use Rattle.replay_stream.proofs.Few.{good_few}
use Rattle.replay_stream.specs.Giving.{hand_of}
use Rattle.replay_entry.proofs.Entries.{bad_is}
use Rattle.replay_entry.proofs.entry_turn.Goals as goal

pub returns-then-short_of_an_entry : goal.returns-then-short_of_an_entry
returns-then-short_of_an_entry c = λ l w p q t. rw c.waits.ensures (sym (pick_true _ _ _ (sym c.short_of_an_entry.ensures ∙ c.if-short_of_an_entry.true)))

pub play-requires : goal.play-requires
play-requires c =
    (c.requires.0, good_few _ 0 _ (sym c.event_at-entry.ensures ∙ c.in-Some.is), c.requires.1)

pub returns-in-None : goal.returns-in-None
returns-in-None c =
    λ l w p q t. let a = c.args in rw c.bad.ensures (sym (pick_false _ _ _ (sym c.short_of_an_entry.ensures ∙ c.if-short_of_an_entry.false) ∙ ap (entry_turn a.header a.number a.session (lent a.envelope.now l w p q t a.lag_sums.now) (hand_of a.events.now a.far.now a.near.now a.ended)) (sym c.event_at-entry.ensures ∙ c.in-None.is) ∙ bad_is a.header a.number a.session (lent a.envelope.now l w p q t a.lag_sums.now) (hand_of a.events.now a.far.now a.near.now a.ended)))

pub returns-in-Some : goal.returns-in-Some
returns-in-Some c =
    λ l w p q t. let a = c.args in c.play.ensures a.events.now l w p q t ∙ sym (pick_false _ _ _ (sym c.short_of_an_entry.ensures ∙ c.if-short_of_an_entry.false) ∙ ap (entry_turn a.header a.number a.session (lent a.envelope.now l w p q t a.lag_sums.now) (hand_of a.events.now a.far.now a.near.now a.ended)) (sym c.event_at-entry.ensures ∙ c.in-Some.is))
