-- `fine_words::load_peak_at` meets its contract.
use Rattle.answers.proofs.Cases.{cases}
use Rattle.fine_words.specs.Layout.{loaded_peak_at}
use Rattle.fine_words.proofs.load_peak_at.Goals as goal

pub returns-then-state-eq0 : goal.returns-then-state-eq0
unfolding loaded_peak_at
returns-then-state-eq0 c = search cases

pub returns : goal.returns
unfolding loaded_peak_at
returns c = search cases
