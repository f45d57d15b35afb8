-- `recording::event_at` meets its contract.
use native.Mathlib.Omega.{arith}
use Rattle.answers.proofs.Cases.{cases}
use Rattle.answers.specs.Pick.{pick}
use Rattle.recording.specs.Recording.{event_at}
use Rattle.recording.proofs.event_at.Goals as goal

pub returns-then-s-lt16 : goal.returns-then-s-lt16
unfolding event_at pick
returns-then-s-lt16 c = grind (arith, cases)

pub returns : goal.returns
unfolding event_at pick
returns c = grind (arith, cases)
