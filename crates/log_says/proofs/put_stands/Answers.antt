-- `log_says::put_stands` meets its contract.
use native.Mathlib.Omega.{arith}
use mathlib.Core.Path.{sym}
use lib.Seq.{length-take-le}
use Rattle.log_hold.proofs.Holding.{cut_line_within, cut_last_within}
use Rattle.log_says.specs.Says.{stands_text}
use Rattle.log_says.proofs.Sides.{stands_by}
use Rattle.log_says.proofs.put_stands.Goals as goal

pub slice_bounds-put_there-end : goal.slice_bounds-put_there-end
slice_bounds-put_there-end c = sym (length-take-le _ _ (omega (arith, cut_line_within c.args.hand.now c.args.ended c.in-Line.is c.cut.ensures)))

pub slice_bounds-put_there-end-in-Last : goal.slice_bounds-put_there-end-in-Last
slice_bounds-put_there-end-in-Last c = sym (length-take-le _ _ (cut_last_within c.args.hand.now c.args.ended c.in-Last.is c.cut.ensures))

pub returns-in-Line : goal.returns-in-Line
returns-in-Line c = rw (← stands_by _ _ c.in-Line.is c.cut.ensures) c.put_there.ensures

pub returns-in-Last : goal.returns-in-Last
returns-in-Last c = rw (← stands_by _ _ c.in-Last.is c.cut.ensures) c.put_there-in-Last.ensures

pub returns-in-Long : goal.returns-in-Long
returns-in-Long c = rw (← stands_by _ _ c.in-Long.is c.cut.ensures) c.put_there-in-Long.ensures

pub returns-in-Wants : goal.returns-in-Wants
returns-in-Wants c = rw (← stands_by _ _ c.in-Wants.is c.cut.ensures) c.put_there-in-Wants.ensures

pub returns-in-Over : goal.returns-in-Over
unfolding stands_text
returns-in-Over c = rw (← stands_by _ _ c.in-Over.is c.cut.ensures) c.put.ensures
