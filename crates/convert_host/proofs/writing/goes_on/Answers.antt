-- `convert_host::writing::goes_on` meets its contract.
use mathlib.Core.Bool.{false≢true}
use Rattle.convert_host.proofs.writing.goes_on.Goals as goal

pub returns-then-events-number : goal.returns-then-events-number
returns-then-events-number c = λ e. absurd (false≢true e)
