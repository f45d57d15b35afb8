use Rattle.answers.proofs.Cases.{cases}
use lib.Ieee.{of_bits}
use Rattle.fine_peak.specs.Peak.{weak}
use Rattle.fine_peak.proofs.weak.Goals as goal

pub returns-then-mean : goal.returns-then-mean
unfolding weak of_bits
returns-then-mean c = search cases

pub returns : goal.returns
unfolding weak of_bits
returns c = search cases
