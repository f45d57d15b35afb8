-- `tracker_words::load_delay` meets its contract.
use Rattle.answers.proofs.Cases.{cases}
use Rattle.tracker_words.specs.Layout.{loaded_delay}
use Rattle.tracker_words.proofs.load_delay.Goals as goal

pub returns-then-flag-eq0 : goal.returns-then-flag-eq0
unfolding loaded_delay
returns-then-flag-eq0 c = search cases

pub returns : goal.returns
unfolding loaded_delay
returns c = search cases
