-- `recording::event_of` meets its contract: kind by kind.
use native.Mathlib.Omega.{arith}
use Rattle.answers.proofs.Cases.{cases}
use Rattle.answers.specs.Pick.{pick}
use Rattle.recording.specs.Recording.{event_of}
use Rattle.recording.proofs.Laws.{then_some_picks}
use Rattle.recording.proofs.event_of.Goals as goal

pub returns-in-1 : goal.returns-in-1
unfolding event_of pick
returns-in-1 c = grind (arith, cases, then_some_picks)

pub returns-in-2 : goal.returns-in-2
unfolding event_of pick
returns-in-2 c = grind (arith, cases, then_some_picks)

pub returns-in-3 : goal.returns-in-3
unfolding event_of pick
returns-in-3 c = grind (arith, cases, then_some_picks)

pub returns-in-4 : goal.returns-in-4
unfolding event_of pick
returns-in-4 c = grind (arith, cases, then_some_picks)

pub returns-in-5 : goal.returns-in-5
unfolding event_of pick
returns-in-5 c = grind (arith, cases, then_some_picks)

pub returns-in-6 : goal.returns-in-6
unfolding event_of pick
returns-in-6 c = grind (arith, cases, then_some_picks)

pub returns-in-7 : goal.returns-in-7
unfolding event_of pick
returns-in-7 c = grind (arith, cases, then_some_picks)

pub returns-in-8 : goal.returns-in-8
unfolding event_of pick
returns-in-8 c = grind (arith, cases, then_some_picks)

pub returns-in_default : goal.returns-in_default
unfolding event_of pick
returns-in_default c = grind (arith, cases, then_some_picks)
