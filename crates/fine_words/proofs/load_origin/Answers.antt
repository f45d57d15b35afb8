-- `fine_words::load_origin` meets its contract.
use Rattle.answers.proofs.Cases.{cases}
use Rattle.fine_words.specs.Layout.{loaded_origin}
use Rattle.fine_words.proofs.load_origin.Goals as goal

pub returns-then-are_cases : goal.returns-then-are_cases
unfolding loaded_origin
returns-then-are_cases c = search (cases, ← c.are_cases.ensures)

pub returns : goal.returns
unfolding loaded_origin
returns c = search (cases, ← c.are_cases.ensures)
