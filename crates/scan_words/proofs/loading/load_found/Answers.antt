-- `scan_words::loading::load_found` meets its contract.
use Rattle.answers.proofs.Cases.{cases}
use Rattle.scan_words.specs.Layout.{loaded_found}
use Rattle.scan_words.proofs.loading.load_found.Goals as goal

pub returns-then-state-eq0 : goal.returns-then-state-eq0
unfolding loaded_found
returns-then-state-eq0 c = search cases

pub returns : goal.returns
unfolding loaded_found
returns c = search (cases, ← c.float64.ensures)
