-- `log_hold::look` meets its contract.
use mathlib.Core.Path.{ap, ◌∙◌}
use Rattle.pipes.specs.Window.{at_hand}
use Rattle.log_hold.specs.Held.{held}
use Rattle.log_hold.proofs.look.Goals as goal

pub returns : goal.returns
returns c = c.hold.ensures ∙ ap (λ b. held c.args.due (at_hand c.args.log c.args.room.now) b) c.ended.ensures
