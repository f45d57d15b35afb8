-- `floats::bits::unsigned` meets its contract: the pattern loses its sign.
use mathlib.Core.Path.{sym, subst}
use mathlib.Core.Bool.{Bool, not}
use lib.Dec.{T}
use lib.Ieee.{binary64, fits, is_nan}
use Rattle.floats.proofs.Finite.{unsigned, unsigned_number}
use Rattle.floats.proofs.bits.unsigned.Goals as goal
use Rattle.floats.proofs.bits.unsigned.Goals.{Start}

held : (c : Start) → T (fits binary64 c.args.x)
held c = subst T (sym c.well_formed.0.1) tt

a-number : (c : Start) → T (not (is_nan c.args.x))
a-number c = subst (λ (b : Bool). T (not b)) (sym c.requires) tt

pub float_to_bits-result : goal.float_to_bits-result
float_to_bits-result c = a-number c

pub float_from_bits-result : goal.float_from_bits-result
float_from_bits-result c = unsigned_number c.args.x (held c) (a-number c)

pub returns : goal.returns
returns c = unsigned c.args.x (held c)
