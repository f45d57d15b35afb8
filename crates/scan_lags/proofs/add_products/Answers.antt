-- `scan_lags::add_products` meets its contract. Invariant: the first j sums have their product.
use Rattle.std.proofs.Common.{refl, ◌∙◌, arith}
use Rattle.folds.proofs.Rewriting.{untouched, one_more, rewritten}
use Rattle.scan_lags.proofs.add_products.Invariants.{added}
use Rattle.scan_lags.proofs.add_products.Goals as goal

pub loop-j-init : goal.loop-j-init
loop-j-init c = untouched _ _

pub loop-j-preserved : goal.loop-j-preserved
loop-j-preserved c =
    let l = c.loop-j in
    let a = c.args in
    one_more (added a.x a.window.now a.from) a.sums.now l.j l.sums _ l.invariant (omega (arith, l.invariant.size)) refl

pub returns : goal.returns
returns c =
    let l = c.loop-j in
    let a = c.args in
    rewritten (added a.x a.window.now a.from) a.sums.now l.j l.sums l.invariant (omega (arith, l.invariant.size)) ∙ rw c.requires.1
