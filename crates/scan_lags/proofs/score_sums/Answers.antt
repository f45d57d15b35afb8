-- `scan_lags::score_sums` meets its contract. Invariant: the first j scores of the block stand.
use Rattle.std.proofs.Common.{◌≡◌, ◌+◌, refl, ◌∙◌, arith, length-set}
use Rattle.folds.proofs.Rewriting.{one_more}
use Rattle.scan_lags.proofs.score_sums.Goals as goal

pub loop-j-init : goal.loop-j-init
loop-j-init c =
    let z : c.args.k + 0 ≡ c.args.k = omega arith in
    (refl, λ f old h r. rw z r)

pub loop-j-preserved : goal.loop-j-preserved
loop-j-preserved c =
    let l = c.loop-j in
    let a = c.args in
    let z : a.k + (l.j + 1) ≡ a.k + l.j + 1 = omega arith in
    let e = c.score.ensures in (
      simp length-set l.invariant.0,
      λ f old h r.
          let s = l.invariant.1 f old h r in
          rw z (one_more f old (a.k + l.j) l.scores _ s (omega arith) (e ∙ rw (s.left (a.k + l.j) (omega arith)) (h l.j (omega arith)))),
    )

pub returns : goal.returns
returns c = let e : c.loop-j.j ≡ 16 = omega arith in rw e at c.loop-j.invariant.1
