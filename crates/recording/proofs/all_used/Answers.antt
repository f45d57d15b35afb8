-- `recording::all_used` meets its contract.
use native.Mathlib.Omega.{arith}
use Rattle.answers.proofs.Cases.{cases}
use Rattle.answers.specs.Pick.{pick}
use Rattle.recording.specs.Samples.{all_used}
use Rattle.recording.proofs.all_used.Goals as goal

pub returns-then-from-used : goal.returns-then-from-used
unfolding all_used pick
returns-then-from-used c = grind (arith, cases)

pub returns-else-from-used : goal.returns-else-from-used
unfolding all_used pick
returns-else-from-used c = grind (arith, cases)
