-- `scan_push::sums::abreast` meets its contract. Invariant: each sum has gone on with the first i of its samples.
use mathlib.Core.Path.{◌≡◌, refl, ◌∙◌}
use native.Mathlib.Omega.{arith}
use lib.Ieee.{of_bits}
use Rattle.floats.specs.Functions.{zero64}
use Rattle.scan_push.specs.Onward.{onward}
use Rattle.scan_push.proofs.Groups.{finite_at, onward_first, onward_more}
use Rattle.scan_push.proofs.sums.abreast.Goals as goal

pub loop-i-init : goal.loop-i-init
unfolding onward of_bits
loop-i-init c = (refl, refl)

pub summed-first-requires : goal.summed-first-requires
summed-first-requires c = finite_at _ _ c.requires.1 (omega arith)

pub summed-next-requires : goal.summed-next-requires
summed-next-requires c = finite_at _ _ c.requires.1 (omega arith)

pub loop-i-preserved : goal.loop-i-preserved
loop-i-preserved c =
    let l = c.loop-i in
    let a = c.args in
    let xs = a.samples.now in (
      c.summed-first.ensures ∙ onward_first a.start xs l.i l.first l.invariant.0,
      c.summed-next.ensures ∙ onward_more zero64 xs a.m l.i l.next l.invariant.1,
    )

pub returns : goal.returns
returns c =
    let l = c.loop-i in
    let e : l.i ≡ c.args.n = omega arith in
    rw (l.invariant.0, l.invariant.1, e)
