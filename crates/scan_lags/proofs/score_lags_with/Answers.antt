-- `scan_lags::score_lags_with` meets its contract. Invariant: the first k energies are rewritten to scores, and those above the floor are counted.
use Rattle.std.proofs.Common.{◌≡◌, ℕ, ◌+◌, length, sym, refl, ap, ◌∙◌, arith}
use Rattle.folds.proofs.Rewriting.{untouched, rewritten}
use Rattle.scan_lags.specs.Lags.{score_from, above_in}
use Rattle.scan_lags.proofs.Blocks.{counted_at_most}
use Rattle.scan_lags.proofs.score_lags_with.Goals as goal

pub loop-k-init : goal.loop-k-init
unfolding above_in
loop-k-init c = (omega arith, untouched _ _, refl)

pub score_some-went-requires : goal.score_some-went-requires
score_some-went-requires c =
    let pre = c.requires in
    (pre.0, omega (arith, c.loop-k.invariant.1.size), pre.1, omega (arith, c.loop-k.invariant.1.size, pre.2))

pub overflow_add-live : goal.overflow_add-live
overflow_add-live c =
    let some = c.score_some-went.ensures in
    let l = c.loop-k in
    let so_far = counted_at_most c.args.scores.now c.score_some-went.result.next in
    omega (arith, l.invariant.1.size, l.invariant.2, some.counts _ l.invariant.1, so_far, some.inside)

pub loop-k-smaller : goal.loop-k-smaller
loop-k-smaller c =
    let some = c.score_some-went.ensures in
    omega (arith, c.loop-k.invariant.1.size, some.further, some.inside)

pub loop-k-preserved : goal.loop-k-preserved
loop-k-preserved c =
    let some = c.score_some-went.ensures in
    let l = c.loop-k in
    (omega (arith, l.invariant.1.size, some.inside), some.rewrites _ l.invariant.1, ap (λ (n : ℕ). n + c.score_some-went.result.live) l.invariant.2 ∙ sym (some.counts _ l.invariant.1))

pub shape_of-scores : goal.shape_of-scores
shape_of-scores c = c.loop-k.invariant.1.size

pub returns : goal.returns
returns c =
    let l = c.loop-k in
    let a = c.args in
    let all : l.k ≡ length a.scores.now = omega (arith, l.invariant.1.size) in
    record {
      scores = rewritten (score_from a.near.now a.window.now a.frame a.power) a.scores.now l.k l.scores l.invariant.1 (omega (arith, l.invariant.1.size));
      live = l.invariant.2 ∙ ap (above_in a.scores.now) all;
    }
