-- `recording::shape_at` meets its contract: test by test.
use native.Mathlib.Omega.{arith}
use Rattle.answers.proofs.Cases.{cases}
use Rattle.answers.specs.Pick.{pick}
use Rattle.recording.specs.Recording.{shape_at}
use Rattle.recording.proofs.shape_at.Goals as goal

pub returns-in-24 : goal.returns-in-24
unfolding shape_at pick
returns-in-24 c = grind (arith, cases)

pub returns-in-28 : goal.returns-in-28
unfolding shape_at pick
returns-in-28 c = grind (arith, cases)

pub returns-in_default : goal.returns-in_default
unfolding shape_at pick
returns-in_default c = grind (arith, cases)

pub returns-in_default-2 : goal.returns-in_default-2
unfolding shape_at pick
returns-in_default-2 c = grind (arith, cases)
