-- `log_sink::lost` meets its contract.
use mathlib.Core.Bool.{false≢true}
use mathlib.Core.Path.{refl}
use Rattle.log_sink.proofs.lost.Goals as goal

pub returns : goal.returns
returns c = (refl, λ e. absurd (false≢true e))
