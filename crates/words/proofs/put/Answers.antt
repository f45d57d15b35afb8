-- `words::put` meets its contract. Invariant: the first i values are copied.
use Rattle.std.proofs.Common.{◌≡◌, length, get_or, sym, refl, ◌∙◌, add-one, arith, length-set, take_all, take-suc, take-suc-set}
use Rattle.words.proofs.put.Goals as goal

pub loop-i-init : goal.loop-i-init
loop-i-init c = (refl, refl)

pub loop-i-preserved : goal.loop-i-preserved
loop-i-preserved c =
    let l = c.loop-i in
    let from = c.args.from.now in
    let e = l.invariant.1 in
    (simp length-set l.invariant.0, rw add-one (cc (take-suc-set l.to l.i (get_or from l.i 0) (omega arith), take-suc from l.i 0 (omega arith))))

pub returns : goal.returns
returns c =
    let l = c.loop-i in
    let from = c.args.from.now in
    let e : l.i ≡ length from = omega arith in
    sym (take_all (length from) l.to (omega arith)) ∙ (rw e at l.invariant.1) ∙ take_all (length from) from (omega arith)
