-- `recording::supplied` meets its contract.
use native.Mathlib.Omega.{arith}
use Rattle.answers.proofs.Cases.{cases}
use Rattle.answers.specs.Pick.{pick}
use Rattle.recording.proofs.supplied.Goals as goal

pub returns-then-bytes_of-length : goal.returns-then-bytes_of-length
unfolding pick
returns-then-bytes_of-length c = grind (arith, cases)

pub returns-else-samples-from : goal.returns-else-samples-from
unfolding pick
returns-else-samples-from c = grind (arith, cases)
