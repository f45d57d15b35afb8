-- `log_passes::taking::line_of` meets its contract.
use mathlib.Core.Path.{sym, ◌∙◌}
use native.Mathlib.Omega.{arith}
use Rattle.log_passes.proofs.Hands.{room_behind_lem, taken_is}
use Rattle.log_passes.specs.Taking.{taken_of}
use Rattle.log_passes.proofs.taking.line_of.Goals as goal

pub overflow_add-result : goal.overflow_add-result
overflow_add-result c = omega (arith, room_behind_lem _ _ _ (sym c.cut.ensures ∙ c.in-Line.is))

pub returns-in-Line : goal.returns-in-Line
unfolding taken_of
returns-in-Line c = taken_is _ _ _ _ c.cut.ensures (rw c.in-Line.is)

pub returns-in-Last : goal.returns-in-Last
unfolding taken_of
returns-in-Last c = taken_is _ _ _ _ c.cut.ensures (rw c.in-Last.is)

pub returns-in-Long : goal.returns-in-Long
unfolding taken_of
returns-in-Long c = taken_is _ _ _ _ c.cut.ensures (rw c.in-Long.is)

pub returns-in-Wants : goal.returns-in-Wants
unfolding taken_of
returns-in-Wants c = taken_is _ _ _ _ c.cut.ensures (rw c.in-Wants.is)

pub returns-in-Over : goal.returns-in-Over
unfolding taken_of
returns-in-Over c = taken_is _ _ _ _ c.cut.ensures (rw c.in-Over.is)
