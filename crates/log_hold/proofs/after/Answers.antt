-- `log_hold::after` meets its contract, arm by arm.
use mathlib.Core.Path.{refl}
use Rattle.log_hold.proofs.Seeking.{goes_right, goes_wrong, goes_over, goes_nowhere}
use Rattle.log_hold.proofs.after.Goals as goal

pub returns-in-Right : goal.returns-in-Right
returns-in-Right c = goes_right c.args.check _ c.args.due c.args.log c.in-Right.is c.requires c.past.ensures.0 c.past.ensures.1 c.past.ensures.2 c.past.ensures.3 c.saturating_add.ensures refl

pub returns-in-Wrong : goal.returns-in-Wrong
returns-in-Wrong c = goes_wrong c.args.check _ c.args.due c.args.log c.in-Wrong.is refl refl refl

pub returns-in-Wants : goal.returns-in-Wants
returns-in-Wants c = goes_nowhere c.args.check _ c.args.due c.args.log c.in-Wants.is

pub returns-in-Over : goal.returns-in-Over
returns-in-Over c = goes_over c.args.check _ c.args.due c.args.log c.in-Over.is refl refl refl
