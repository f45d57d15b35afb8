-- `floats::bits::pattern32` meets its contract: a NaN's pattern is the one that the logic writes.
use mathlib.Core.Path.{sym, ap, ◌∙◌}
use lib.Ieee.{binary32, to_bits}
use Rattle.floats.proofs.Readback.{is_nan_lem, no_nan}
use Rattle.floats.proofs.bits.pattern32.Goals as goal

pub returns-then-is_nan : goal.returns-then-is_nan
unfolding to_bits
returns-then-is_nan c = ap (to_bits binary32) (sym (is_nan_lem c.args.x (sym c.is_nan.ensures.value ∙ c.if-is_nan.true)))

pub float_to_bits-result : goal.float_to_bits-result
float_to_bits-result c = no_nan c.args.x (sym c.is_nan.ensures.value ∙ c.if-is_nan.false)
