-- `folds::clear64` meets its contract: a copy of +0 is +0.
use Rattle.std.proofs.Common.{length, ◌∙◌}
use lib.Ieee.{of_bits}
use Rattle.folds.proofs.Clearing.{all_zeros}
use Rattle.folds.proofs.clear64.Goals as goal

pub returns : goal.returns
unfolding of_bits
returns c = c.fill.ensures.after (λ y e. e) ∙ all_zeros (length c.args.xs.now)
