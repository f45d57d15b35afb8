-- `floats::to_even` meets its contract: what is left of m carries.
use borrow.Author.Rules.{rules}
use native.Mathlib.Omega.{arith}
use lib.Pow.{pow_mono}
use Rattle.floats.proofs.Ties.{taken_le, rest_lt, half_some, carry_small, carried, shifted_lt}
use Rattle.floats.proofs.to_even.Goals as goal

pub overflow_mul-rest : goal.overflow_mul-rest
overflow_mul-rest c = rw c.pow2-unit.ensures (omega (arith, taken_le c.args.m c.args.k))

pub overflow_sub-rest : goal.overflow_sub-rest
overflow_sub-rest c = rw c.pow2-unit.ensures (taken_le c.args.m c.args.k)

pub overflow_sub-half : goal.overflow_sub-half
overflow_sub-half c = rw c.pow2-unit.ensures (half_some c.args.m c.args.k c.requires.0)

pub overflow_add-carry : goal.overflow_add-carry
overflow_add-carry c = rw c.pow2-unit.ensures (omega (arith, rest_lt c.args.m c.args.k, pow_mono {i = c.args.k} {j = 63} (omega arith)))

pub overflow_add-carry-2 : goal.overflow_add-carry-2
overflow_add-carry-2 c = rw c.pow2-unit.ensures (omega (arith, rest_lt c.args.m c.args.k, pow_mono {i = c.args.k} {j = 63} (omega arith)))

pub overflow_add-result : goal.overflow_add-result
overflow_add-result c =
    let a = c.args in
    rw c.pow2-unit.ensures (omega (arith, shifted_lt a.m a.k (search rules) (search rules), carry_small a.m a.k c.requires.0))

pub returns : goal.returns
returns c = rw c.pow2-unit.ensures (carried c.args.m c.args.k c.requires.0)
