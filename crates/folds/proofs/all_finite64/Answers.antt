-- `folds::all_finite64` meets its contract: the invariant is `Tested`.
use Rattle.std.proofs.Common.{sym, ◌∙◌, arith}
use Rattle.folds.proofs.Finite.{none_tested, is_finite, not_finite, all_tested}
use Rattle.folds.proofs.all_finite64.Goals as goal
use Rattle.folds.proofs.all_finite64.Goals.{then-not-is_finite, else-not-is_finite}

pub loop-x-init : goal.loop-x-init
loop-x-init c = none_tested _

pub loop-x-preserved : goal.loop-x-preserved
loop-x-preserved c =
    let l = c.loop-x in
    let xs = c.args.xs.now in
    let e = c.is_finite.ensures in
    elim c.if-not-is_finite.branch [
      | then-not-is_finite w ↦ rw w.fine-is (not_finite xs l.x-index l.fine (omega arith) (sym e ∙ w.if-not-is_finite.true) l.invariant)
      | else-not-is_finite w ↦ rw w.fine-is (is_finite xs l.x-index l.fine (omega arith) (sym e ∙ w.if-not-is_finite.false) l.invariant)
    ]

pub returns : goal.returns
returns c = let l = c.loop-x in all_tested c.args.xs.now l.x-index l.fine (omega arith) l.invariant
