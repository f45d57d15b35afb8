-- `scan_decision::exhausted_by` meets its contract: by its tests.
use Rattle.std.proofs.Common.{arith}
use Rattle.answers.specs.Pick.{pick}
use Rattle.answers.proofs.Cases.{cases}
use Rattle.scan_decision.proofs.exhausted_by.Goals as goal

pub returns-then-before : goal.returns-then-before
returns-then-before c = search (cases, c.if-before.true)

pub returns-in-Nothing : goal.returns-in-Nothing
returns-in-Nothing c = search (cases, c.in-Nothing.is)

pub returns-in_default : goal.returns-in_default
returns-in_default c = search (cases, c.in_default.is)

pub returns-else-frames-ge-COARSE_GIVE_UP_FRAMES : goal.returns-else-frames-ge-COARSE_GIVE_UP_FRAMES
unfolding pick
returns-else-frames-ge-COARSE_GIVE_UP_FRAMES c = grind (arith, cases)
