-- `turn` meets its contract: stage by stage.
use Rattle.recording.specs.Samples.{bytes_of}
use Rattle.recording.proofs.Forms.{bytes_cancel}
use Rattle.replay_near.proofs.Decoding.{bytes_least}
use mathlib.Core.Path.{sym, ◌∙◌}
use native.Mathlib.Omega.{arith}
use Rattle.answers.specs.Pick.{pick_true, pick_false}
use Prim.Native.Nat.{min}
use lib.ListN.{length}
use borrow.Author.Tests.{lt-ltb, le-ltb, ltb-false}
use Rattle.replay_stream.specs.Stream.{near_turn}
use Rattle.replay_stream.specs.Stream as stream
use Rattle.replay_turn.proofs.turn.Goals as goal

pub returns-then-number-header : goal.returns-then-number-header
unfolding stream.turn
returns-then-number-header c =
    rw c.in-Events.is (c.entry_turn.ensures _ _ _ _ _ ∙ sym (pick_true _ _ _ (lt-ltb _ _ c.if-number-header.true)))

pub returns-then-lacks : goal.returns-then-lacks
unfolding stream.turn
returns-then-lacks c = rw (c.in-Midway.is, c.stands-then-lacks.ensures) (sym (pick_true _ _ _ (sym c.lacks.ensures ∙ c.if-lacks.true)))

pub near_turn-requires : goal.near_turn-requires
near_turn-requires c =
    let form = c.args.header.form in
    let m = ltb-false (min (length c.args.near.now) (bytes_of form 4096)) _ (sym c.lacks.ensures ∙ c.if-lacks.false) in
    let left = c.in-Midway.left in
    let few = bytes_cancel form left 4096 (omega (arith, m)) in
    record { there = omega (arith, m); few = few; room = omega (arith, m, few, bytes_least form left, c.requires.1) }

pub returns-in-Opening : goal.returns-in-Opening
unfolding stream.turn
returns-in-Opening c = rw (c.in-Opening.is, c.stands.ensures, c.opening.ensures)

pub returns-else-number-header : goal.returns-else-number-header
unfolding stream.turn
returns-else-number-header c = rw (c.in-Events.is, c.stands-in-Events.ensures, c.closing-line.ensures) (sym (pick_false _ _ _ (le-ltb _ _ c.if-number-header.false)))

pub returns-else-lacks : goal.returns-else-lacks
unfolding stream.turn near_turn
returns-else-lacks c =
    rw c.in-Midway.is (c.near_turn.ensures ∙ sym (pick_false _ _ _ (sym c.lacks.ensures ∙ c.if-lacks.false)))

pub returns-in-Closed : goal.returns-in-Closed
unfolding stream.turn
returns-in-Closed c = rw (c.in-Closed.is, c.stands-in-Closed.ensures)
