-- `log_sink::drain` meets its contract.
use native.Mathlib.Omega.{arith}
use mathlib.Core.Path.{refl, sym, ◌∙◌}
use lib.Seq.{length-take-le}
use Rattle.answers.proofs.Cases.{cases}
use Rattle.log_sink.proofs.drain.Goals as goal

pub slice_bounds-drain-end : goal.slice_bounds-drain-end
slice_bounds-drain-end c = sym (length-take-le _ _ (omega arith))

pub returns : goal.returns
returns c = (omega arith, refl, λ g. grind (arith, cases))
