-- `folds::all_finite` meets its contract: where the quarters are finite the rest decides.
use Rattle.std.proofs.Common.{◌∙◌, arith}
use Rattle.folds.proofs.Quarters.{rest_decides_lent}
use Rattle.folds.proofs.all_finite.Goals as goal

pub returns-then-quarters_finite : goal.returns-then-quarters_finite
returns-then-quarters_finite c =
    let xs = c.args.xs.now in
    let all = c.quarters_finite.ensures c.if-quarters_finite.true in
    c.each_finite.ensures ∙ rest_decides_lent xs _ (omega arith) all
