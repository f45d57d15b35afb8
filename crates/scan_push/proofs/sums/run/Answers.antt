-- `scan_push::sums::run` meets its contract. Invariant: the sum has gone on with the samples so far.
use mathlib.Core.Path.{◌≡◌, refl, sym, ap, subst, ◌∙◌}
use mathlib.Core.Bool.{true}
use native.Mathlib.Omega.{arith}
use lib.Ieee.{Float}
use lib.Ieee.Scale.{finite}
use Rattle.scan.specs.Blocks.{summed}
use Rattle.scan_push.specs.Onward.{onward}
use Rattle.scan_push.proofs.Groups.{finite_at, onward_more, at_part, part_length}
use Rattle.scan_push.proofs.sums.run.Goals as goal

pub loop-sample-init : goal.loop-sample-init
unfolding onward
loop-sample-init c = refl

pub summed-sum-requires : goal.summed-sum-requires
summed-sum-requires c =
    let a = c.args in
    let i = c.loop-sample.sample-index in
    let l = part_length a.samples.now a.from a.n c.requires.0 in
    subst (λ (x : Float). finite x ≡ true) (sym (at_part a.samples.now a.from a.n i (omega (arith, l)))) (finite_at _ _ c.requires.1 (omega (arith, l)))

pub loop-sample-preserved : goal.loop-sample-preserved
loop-sample-preserved c =
    let a = c.args in
    let l = c.loop-sample in
    let k = part_length a.samples.now a.from a.n c.requires.0 in
    c.summed-sum.ensures ∙ ap (summed l.sum) (at_part a.samples.now a.from a.n l.sample-index (omega (arith, k))) ∙ onward_more a.start a.samples.now a.from l.sample-index l.sum l.invariant

pub returns : goal.returns
returns c =
    let a = c.args in
    let k = part_length a.samples.now a.from a.n c.requires.0 in
    let e : c.loop-sample.sample-index ≡ a.n = omega (arith, k) in
    c.loop-sample.invariant ∙ ap (onward a.start a.samples.now a.from) e
