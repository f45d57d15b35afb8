-- `log_hold::hold_end` meets its contract, arm by arm.
use Rattle.log_hold.proofs.Holding.{held_by}
use Rattle.log_hold.proofs.hold_end.Goals as goal

pub returns-in-Line : goal.returns-in-Line
returns-in-Line c = held_by _ _ _ c.in-Line.is c.cut.ensures

pub returns-in-Last : goal.returns-in-Last
returns-in-Last c = held_by _ _ _ c.in-Last.is c.cut.ensures

pub returns-in-Long : goal.returns-in-Long
returns-in-Long c = held_by _ _ _ c.in-Long.is c.cut.ensures

pub returns-in-Wants : goal.returns-in-Wants
returns-in-Wants c = held_by _ _ _ c.in-Wants.is c.cut.ensures

pub returns-in-Over : goal.returns-in-Over
returns-in-Over c = held_by _ _ _ c.in-Over.is c.cut.ensures
