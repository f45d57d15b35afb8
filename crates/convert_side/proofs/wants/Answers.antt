-- `convert_side::wants` meets its contract.
use mathlib.Core.Bool.{false≢true}
use Rattle.convert_side.proofs.wants.Goals as goal

pub returns-then-need-w : goal.returns-then-need-w
returns-then-need-w c = λ e. absurd (false≢true e)
