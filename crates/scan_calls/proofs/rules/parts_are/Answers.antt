-- `scan_calls::rules::parts_are` meets its contract: a remainder as large as the divisor is none; a product tells; and so does the division.
use native.Mathlib.Omega.{arith}
use Rattle.answers.proofs.Cases.{cases}
use Rattle.scan_calls.proofs.Passing.{product, told_by_product, no_remainder}
use Rattle.scan_calls.proofs.rules.parts_are.Goals as goal

pub returns-then-d-remainder : goal.returns-then-d-remainder
returns-then-d-remainder c = let a = c.args in no_remainder a.n a.d a.quotient a.remainder c.requires.0 c.if-d-remainder.true

pub overflow_mul-result : goal.overflow_mul-result
overflow_mul-result c = omega (arith, product c.args.quotient c.args.d c.if-quotient-lt-SURELY_BELOW.true c.requires.1)

pub overflow_add-result : goal.overflow_add-result
overflow_add-result c = omega (arith, product c.args.quotient c.args.d c.if-quotient-lt-SURELY_BELOW.true c.requires.1, c.if-d-remainder.false, c.requires.1)

pub returns-then-quotient-lt-SURELY_BELOW : goal.returns-then-quotient-lt-SURELY_BELOW
returns-then-quotient-lt-SURELY_BELOW c = let a = c.args in told_by_product a.n a.d a.quotient a.remainder c.requires.0 (omega (arith, c.if-d-remainder.false))

pub returns-then-quotient-n : goal.returns-then-quotient-n
returns-then-quotient-n c = search cases

pub returns-else-quotient-n : goal.returns-else-quotient-n
returns-else-quotient-n c = search cases
