-- `log_lines::in_range` meets its contract: arm by arm; a number of the line fits its type.
use Rattle.std.proofs.Common.{◌^◌, true, sym, ap, ◌∙◌, arith, lt-ltb}
use Rattle.log_lines.specs.Lines.{in_range}
use Rattle.answers.specs.Pick.{both, pick_true, pick_false}
use Rattle.log_lines.specs.Lines.{bits}
use Rattle.log_lines.proofs.Ranges.{bits_first}
use Rattle.log_lines.proofs.in_range.Goals as goal

pub returns-then-allowed_rate : goal.returns-then-allowed_rate
unfolding in_range
returns-then-allowed_rate c = rw c.in-Replay.is (c.allowed_ceiling.ensures ∙ sym (pick_true _ _ _ (sym c.allowed_rate.ensures ∙ c.if-allowed_rate.true)))

pub returns-else-allowed_rate : goal.returns-else-allowed_rate
unfolding in_range
returns-else-allowed_rate c = rw c.in-Replay.is (c.if-allowed_rate.false ∙ sym (pick_false _ _ _ (sym c.allowed_rate.ensures ∙ c.if-allowed_rate.false)))

pub returns-in-Frame : goal.returns-in-Frame
unfolding in_range
returns-in-Frame c = rw c.in-Frame.is (c.word_in_range.ensures ∙ bits_first 64 _ _ (omega arith))

pub returns-in-Cycle : goal.returns-in-Cycle
unfolding in_range
returns-in-Cycle c = rw c.in-Cycle.is (c.verdict_in_range.ensures ∙ bits_first 64 _ _ (omega arith))

pub returns-in-Refused : goal.returns-in-Refused
unfolding in_range
returns-in-Refused c = rw c.in-Refused.is (rw c.from.ensures at c.within.ensures ∙ bits_first 32 _ _ (omega arith))

pub returns-in-End : goal.returns-in-End
unfolding in_range
returns-in-End c = rw c.in-End.is (bits_first 64 _ true (omega arith) ∙ ap (both (bits 64 _)) (sym (lt-ltb _ (2 ^ 64) (omega arith))))

pub returns-in-BadHeader : goal.returns-in-BadHeader
unfolding in_range
returns-in-BadHeader c = rw c.in-BadHeader.is

pub returns-in-BadEvent : goal.returns-in-BadEvent
unfolding in_range
returns-in-BadEvent c = rw c.in-BadEvent.is (sym (lt-ltb _ (2 ^ 32) (omega arith)))

pub returns-in-BadTotals : goal.returns-in-BadTotals
unfolding in_range
returns-in-BadTotals c = rw c.in-BadTotals.is
