-- `recording::part` meets its contract.
use native.Mathlib.Omega.{arith}
use Rattle.answers.proofs.Cases.{cases}
use Rattle.answers.specs.Pick.{pick}
use Rattle.recording.specs.Samples.{part}
use Rattle.recording.proofs.part.Goals as goal

pub returns-then-n-piece : goal.returns-then-n-piece
unfolding part pick
returns-then-n-piece c = grind (arith, cases)

pub returns-else-at-piece : goal.returns-else-at-piece
unfolding part pick
returns-else-at-piece c = grind (arith, cases)
