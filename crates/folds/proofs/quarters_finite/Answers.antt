-- `folds::quarters_finite` meets its contract: the invariant is `Passed`.
use Rattle.std.proofs.Common.{◌+◌, sym, ◌∙◌, arith}
use Rattle.folds.proofs.Quarters.{passes, fails, all_quarters}
use Rattle.folds.proofs.quarters_finite.Goals as goal
use Rattle.folds.proofs.quarters_finite.Goals.{then-not-is_finite32, else-not-is_finite32}

pub loop-i-preserved : goal.loop-i-preserved
loop-i-preserved c =
    let l = c.loop-i in
    let xs = c.args.xs.now in
    let e = c.is_finite32.ensures in
    elim c.if-not-is_finite32.branch [
      | then-not-is_finite32 w ↦ rw w.fine-is (fails xs c.args.q (l.i + 1))
      | else-not-is_finite32 w ↦ rw w.fine-is (passes xs c.args.q l.i l.fine (sym e ∙ w.if-not-is_finite32.false) l.invariant)
    ]

pub returns : goal.returns
returns c =
    let l = c.loop-i in
    λ t. all_quarters _ _ (λ j s. l.invariant t j (omega arith))
