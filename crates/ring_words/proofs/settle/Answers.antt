-- `ring_words::settle` meets its contract.
use Rattle.ring_words.specs.Layout.{settled}
use mathlib.Core.Path.{refl}
use Rattle.answers.proofs.Cases.{cases}
use Rattle.ring_words.proofs.settle.Goals as goal

pub returns-then-number-lt16 : goal.returns-then-number-lt16
unfolding settled
returns-then-number-lt16 c = record { number = refl; words = search cases }

pub returns : goal.returns
unfolding settled
returns c = record { number = refl; words = search cases }
