-- `floats::magnitude` meets its contract: a NaN is its own.
use mathlib.Core.Path.{sym, ap, ◌∙◌}
use Rattle.floats.specs.Functions as functions
use Rattle.floats.proofs.Readback.{is_nan_lem}
use Rattle.floats.proofs.magnitude.Goals as goal

pub returns-then-is_nan : goal.returns-then-is_nan
unfolding functions.magnitude
returns-then-is_nan c = let e = is_nan_lem c.args.x (sym c.is_nan.ensures.value ∙ c.if-is_nan.true) in e ∙ ap functions.magnitude (sym e)

pub unsigned-requires : goal.unsigned-requires
unsigned-requires c = sym c.is_nan.ensures.value ∙ c.if-is_nan.false

pub returns : goal.returns
returns c = c.unsigned.ensures
