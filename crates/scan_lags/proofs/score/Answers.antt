-- `scan_lags::score` meets its contract: the root of the floats is the definition's.
use Rattle.std.proofs.Common.{ap}
use lib.Ieee.{binary64, mul, div}
use Rattle.floats.proofs.Laws.{root_only}
use Rattle.scan_lags.proofs.score.Goals as goal

pub returns : goal.returns
returns c = let a = c.args in ap (div binary64 a.product) (root_only binary64 (mul binary64 a.power a.energy) _ c.square_root_with.ensures)
