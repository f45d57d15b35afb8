-- `convert_host::judging::goes_on` meets its contract.
use mathlib.Core.Bool.{false≢true}
use Rattle.convert_host.proofs.judging.goes_on.Goals as goal

pub returns-then-lacks : goal.returns-then-lacks
returns-then-lacks c = λ e. absurd (false≢true e)

pub returns-then-events-number : goal.returns-then-events-number
returns-then-events-number c = λ e. absurd (false≢true e)
