-- `scan_pair_words::storing::settle` meets its contract.
use mathlib.Core.Path.{refl}
use Rattle.answers.proofs.Cases.{cases}
use Rattle.scan_pair_words.specs.Layout.{pair_settled}
use Rattle.scan_pair_words.proofs.storing.settle.Goals as goal

pub returns-then-number-lt16 : goal.returns-then-number-lt16
unfolding pair_settled
returns-then-number-lt16 c = record { number = refl; words = search cases }

pub returns : goal.returns
unfolding pair_settled
returns c = record { number = refl; words = search cases }
