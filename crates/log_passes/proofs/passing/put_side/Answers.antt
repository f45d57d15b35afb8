-- `log_passes::passing::put_side` meets its contract.
use mathlib.Core.Path.{refl}
use Rattle.log_passes.specs.Passing.{side_text}
use Rattle.log_passes.proofs.passing.put_side.Goals as goal

pub returns-in-None : goal.returns-in-None
unfolding side_text
returns-in-None c = rw c.in-None.is (record { bytes = refl; place = refl })

pub returns-in-Some : goal.returns-in-Some
unfolding side_text
returns-in-Some c = rw c.in-Some.is c.put_line.ensures
