use native.Mathlib.Omega.{arith}
use Rattle.fine.specs.State.{transform_of}
use Rattle.fine.proofs.transform_len.Goals as goal

pub returns : goal.returns
unfolding transform_of
returns c = omega (arith, c.max.ensures, c.least_power.ensures.0, c.least_power.ensures.1)
