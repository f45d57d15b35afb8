-- `log_hold::hold_line` meets its contract, arm by arm.
use native.Mathlib.Omega.{arith}
use mathlib.Core.Path.{refl, sym}
use lib.Seq.{length-take-le}
use Rattle.log_hold.proofs.Holding.{cut_line_within, cut_last_within, held_by, held_line}
use Rattle.log_hold.proofs.hold_line.Goals as goal

pub slice_bounds-same_line-end : goal.slice_bounds-same_line-end
slice_bounds-same_line-end c = sym (length-take-le _ _ (omega (arith, cut_line_within c.args.bytes.now c.args.ended c.in-Line.is c.cut.ensures)))

pub overflow_add-n : goal.overflow_add-n
overflow_add-n c = omega (arith, cut_line_within c.args.bytes.now c.args.ended c.in-Line.is c.cut.ensures, c.well_formed)

pub slice_bounds-same_line-end-in-Last : goal.slice_bounds-same_line-end-in-Last
slice_bounds-same_line-end-in-Last c = sym (length-take-le _ _ (omega (arith, cut_last_within c.args.bytes.now c.args.ended c.in-Last.is c.cut.ensures)))

pub returns-in-Line : goal.returns-in-Line
returns-in-Line c = held_line _ _ _ _ _ _ c.in-Line.is c.cut.ensures c.same_line.ensures c.right_if.ensures refl

pub returns-in-Last : goal.returns-in-Last
returns-in-Last c = held_line _ _ _ _ _ _ c.in-Last.is c.cut.ensures c.same_line-in-Last.ensures c.right_if-in-Last.ensures refl

pub returns-in-Long : goal.returns-in-Long
returns-in-Long c = held_by _ _ _ c.in-Long.is c.cut.ensures

pub returns-in-Wants : goal.returns-in-Wants
returns-in-Wants c = held_by _ _ _ c.in-Wants.is c.cut.ensures

pub returns-in-Over : goal.returns-in-Over
returns-in-Over c = held_by _ _ _ c.in-Over.is c.cut.ensures
