-- `floats::widen` meets its contract, by the arithmetic of the long division.
use native.Mathlib.Omega.{arith}
use Rattle.floats.proofs.LongDivision.{root_low, root_high, rest_le, quotient_le, square_le, left_lt, wide_is, wide_close}
use Rattle.floats.proofs.widen.Goals as goal

pub overflow_mul-top-2 : goal.overflow_mul-top-2
overflow_mul-top-2 c = omega (arith, rest_le c.requires, root_high c.requires)

pub nonzero_div-q : goal.nonzero_div-q
nonzero_div-q c = omega (arith, root_low c.requires)

pub nonzero_rem-rest : goal.nonzero_rem-rest
nonzero_rem-rest c = omega (arith, root_low c.requires)

pub overflow_mul-result : goal.overflow_mul-result
overflow_mul-result c = omega (arith, root_high c.requires)

pub overflow_add-result : goal.overflow_add-result
overflow_add-result c = omega (arith, root_high c.requires, quotient_le c.requires)

pub overflow_mul-result-2 : goal.overflow_mul-result-2
overflow_mul-result-2 c = omega (arith, left_lt c.requires, root_high c.requires)

pub overflow_mul-result-3 : goal.overflow_mul-result-3
overflow_mul-result-3 c = omega (arith, square_le c.requires)

pub returns : goal.returns
returns c = (wide_is c.requires, wide_close c.requires)
