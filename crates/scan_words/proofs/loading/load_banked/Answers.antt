-- `scan_words::loading::load_banked` meets its contract.
use Rattle.answers.proofs.Cases.{cases}
use Rattle.scan_words.specs.Layout.{loaded_banked}
use Rattle.scan_words.proofs.loading.load_banked.Goals as goal

pub returns-then-are_cases : goal.returns-then-are_cases
unfolding loaded_banked
returns-then-are_cases c = search (cases, ← c.half.ensures, ← c.are_cases.ensures)

pub returns : goal.returns
unfolding loaded_banked
returns c = search (cases, ← c.are_cases.ensures)
