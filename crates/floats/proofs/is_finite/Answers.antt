-- `floats::is_finite` meets its contract: std's test and the definition say the same, case by case.
use mathlib.Core.Path.{◌∙◌}
use Rattle.floats.proofs.Finite.{tested}
use Rattle.floats.proofs.is_finite.Goals as goal

pub returns : goal.returns
returns c = c.is_finite.ensures.value ∙ tested c.args.x
