-- `short_of_an_entry` meets its contract: by the end of the input.
use Rattle.std.proofs.Common.{arith}
use Rattle.answers.specs.Pick.{pick}
use Rattle.answers.proofs.Cases.{cases}
use Rattle.replay_entry.proofs.short_of_an_entry.Goals as goal

pub returns-then-not-ended : goal.returns-then-not-ended
unfolding pick
returns-then-not-ended c = grind (arith, cases)

pub returns-else-not-ended : goal.returns-else-not-ended
unfolding pick
returns-else-not-ended c = grind (arith, cases)
