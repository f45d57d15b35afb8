-- `scan_words::storing::settle` meets its contract.
use Rattle.answers.proofs.Cases.{cases}
use Rattle.scan_words.specs.Layout.{settled}
use mathlib.Core.Path.{refl}
use Rattle.scan_words.proofs.storing.settle.Goals as goal

pub returns-then-number-lt16 : goal.returns-then-number-lt16
unfolding settled
returns-then-number-lt16 c = record { number = refl; words = search cases }

pub returns : goal.returns
unfolding settled
returns c = record { number = refl; words = search cases }
