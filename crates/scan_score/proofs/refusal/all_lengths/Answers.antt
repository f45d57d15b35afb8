-- `scan_score::refusal::all_lengths` meets its contract: list by list.
use Rattle.std.proofs.Common.{arith}
use Rattle.answers.specs.Pick.{pick}
use Rattle.answers.proofs.Cases.{cases}
use Rattle.scan_score.proofs.refusal.all_lengths.Goals as goal

pub returns-then-scores-g : goal.returns-then-scores-g
unfolding pick
returns-then-scores-g c = grind (arith, cases)

pub returns-else-scores-g : goal.returns-else-scores-g
unfolding pick
returns-else-scores-g c = grind (arith, cases)
