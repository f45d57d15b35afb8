-- `supplies::of` meets its contract: by the total, by the bytes, by the end of the input.
use mathlib.Core.Path.{sym}
use native.Mathlib.Omega.{arith}
use Rattle.replay_stream.specs.Giving.{piece}
use Rattle.replay_entry.proofs.Supplying.{passes_total, at_hand_lem, has_ended, is_awaited}
use Rattle.replay_entry.proofs.supplies.of.Goals as goal

pub returns-then-most-used : goal.returns-then-most-used
returns-then-most-used c = let a = c.args in sym (passes_total a.form a.used a.total a.count (piece a.bytes.now a.ended) (omega arith))

pub returns-then-most-samples : goal.returns-then-most-samples
returns-then-most-samples c = let a = c.args in sym (passes_total a.form a.used a.total a.count (piece a.bytes.now a.ended) (omega arith))

pub returns-then-bytes_of-bytes : goal.returns-then-bytes_of-bytes
returns-then-bytes_of-bytes c = let a = c.args in sym (at_hand_lem a.form a.used a.total a.count (piece a.bytes.now a.ended) (omega arith) (omega arith))

pub returns-then-ended : goal.returns-then-ended
returns-then-ended c = let a = c.args in sym (has_ended a.form a.used a.total a.count (piece a.bytes.now a.ended) (omega arith) (omega arith) c.if-ended.true)

pub returns : goal.returns
returns c = let a = c.args in sym (is_awaited a.form a.used a.total a.count (piece a.bytes.now a.ended) (omega arith) (omega arith) c.if-ended.false)
