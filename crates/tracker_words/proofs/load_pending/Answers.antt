-- `tracker_words::load_pending` meets its contract.
use Rattle.answers.proofs.Cases.{cases}
use Rattle.tracker_words.specs.Layout.{loaded_pending}
use Rattle.tracker_words.proofs.load_pending.Goals as goal

pub returns-then-are_cases : goal.returns-then-are_cases
unfolding loaded_pending
returns-then-are_cases c = search (cases, ← c.are_cases.ensures, ← c.load_delay.ensures)

pub returns : goal.returns
unfolding loaded_pending
returns c = search (cases, ← c.are_cases.ensures)
