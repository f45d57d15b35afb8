-- `convert_side::filled` meets its contract. Each read leaves fewer bytes that may be read.
use native.Mathlib.Omega.{arith}
use Rattle.convert_side.proofs.filled.Goals as goal

pub loop-from-smaller : goal.loop-from-smaller
loop-from-smaller c = omega (arith, c.wants.ensures c.loop-from-test.true, c.refill-next.ensures.falls)
