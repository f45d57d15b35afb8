-- `recording::far_event` meets its contract.
use native.Mathlib.Omega.{arith}
use Rattle.answers.proofs.Cases.{cases}
use Rattle.answers.specs.Pick.{pick}
use Rattle.recording.proofs.far_event.Goals as goal

pub returns-then-number-eq0 : goal.returns-then-number-eq0
unfolding pick
returns-then-number-eq0 c = grind (arith, cases)

pub returns-else-some_samples : goal.returns-else-some_samples
unfolding pick
returns-else-some_samples c = grind (arith, cases)
