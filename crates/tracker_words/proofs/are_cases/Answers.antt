-- `tracker_words::are_cases` meets its contract.
use native.Mathlib.Omega.{arith}
use Rattle.std.proofs.lemmas.Bool.Decides.{nat_tests}
use Rattle.answers.proofs.Cases.{picks}
use Rattle.tracker_words.specs.Layout.{are_cases}
use Rattle.tracker_words.proofs.are_cases.Goals as goal

pub returns-then-all_below-2 : goal.returns-then-all_below-2
unfolding are_cases
returns-then-all_below-2 c = grind (arith, nat_tests, picks)

pub returns-else-all_below-2 : goal.returns-else-all_below-2
unfolding are_cases
returns-else-all_below-2 c = grind (arith, nat_tests, picks)
