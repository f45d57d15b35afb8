-- `scan_words::loading::are_cases` meets its contract.
use Rattle.answers.proofs.Cases.{cases}
use Rattle.scan_words.specs.Layout.{are_cases}
use Rattle.scan_words.proofs.loading.are_cases.Goals as goal

pub returns-then-all_below : goal.returns-then-all_below
unfolding are_cases
returns-then-all_below c = search (cases, ← c.all_below.ensures, ← c.all_below-then-all_below.ensures)

pub returns-else-all_below : goal.returns-else-all_below
unfolding are_cases
returns-else-all_below c = search (cases, ← c.all_below.ensures)
