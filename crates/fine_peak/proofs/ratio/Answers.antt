use Rattle.answers.proofs.Cases.{cases}
use lib.Ieee.{of_bits}
use Rattle.fine_peak.specs.Peak.{ratio_of}
use Rattle.fine_peak.proofs.ratio.Goals as goal

pub returns-then-mean : goal.returns-then-mean
unfolding ratio_of of_bits
returns-then-mean c = search cases

pub returns : goal.returns
unfolding ratio_of of_bits
returns c = search cases
