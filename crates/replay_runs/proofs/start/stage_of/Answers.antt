-- `stage_of` meets its contract.
use native.Mathlib.Omega.{arith}
use Rattle.replay_runs.proofs.start.stage_of.Goals as goal

pub overflow_sub-number : goal.overflow_sub-number
overflow_sub-number c = omega (arith, c.requires.1 (omega (arith, c.if-left-eq0.false)))
