-- `fine_words::are_cases` meets its contract.
use native.Mathlib.Omega.{arith}
use Rattle.answers.specs.Pick.{pick}
use Rattle.answers.proofs.Cases.{cases}
use Rattle.fine_words.specs.Layout.{are_cases}
use Rattle.fine_words.proofs.are_cases.Goals as goal

pub returns-then-state-lt4294967296-2 : goal.returns-then-state-lt4294967296-2
unfolding are_cases pick
returns-then-state-lt4294967296-2 c = grind (arith, cases)

pub returns-else-state-lt4294967296-2 : goal.returns-else-state-lt4294967296-2
unfolding are_cases pick
returns-else-state-lt4294967296-2 c = grind (arith, cases)
