-- `recording::open` meets its contract: test by test.
use native.Mathlib.Omega.{arith}
use Rattle.answers.proofs.Cases.{cases}
use Rattle.answers.specs.Pick.{pick}
use Rattle.recording.specs.Recording.{opened}
use Rattle.recording.proofs.open.Goals as goal

pub returns-then-s-lt24 : goal.returns-then-s-lt24
unfolding opened pick
returns-then-s-lt24 c = grind (arith, cases)

pub returns-in_err-form : goal.returns-in_err-form
unfolding opened pick
returns-in_err-form c = grind (arith, cases)

pub returns : goal.returns
unfolding opened pick
returns c = grind (arith, cases)
