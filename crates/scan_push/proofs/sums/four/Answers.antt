-- `scan_push::sums::four` meets its contract. Invariant: each sum has gone on with the first i samples of its block.
use Prim.Native.Nat.{◌+◌}
use mathlib.Core.Path.{◌≡◌, refl, ◌∙◌}
use native.Mathlib.Omega.{arith}
use lib.Ieee.{of_bits}
use Rattle.floats.specs.Functions.{zero64}
use Rattle.scan_push.specs.Onward.{onward}
use Rattle.scan_push.proofs.Groups.{finite_at, onward_first, onward_more}
use Rattle.scan_push.proofs.sums.four.Goals as goal

pub loop-i-init : goal.loop-i-init
unfolding onward of_bits
loop-i-init c = (refl, refl, refl, refl)

pub summed-first-requires : goal.summed-first-requires
summed-first-requires c = finite_at _ _ c.requires.finite (omega arith)

pub summed-second-requires : goal.summed-second-requires
summed-second-requires c = finite_at _ _ c.requires.finite (omega arith)

pub summed-third-requires : goal.summed-third-requires
summed-third-requires c = finite_at _ _ c.requires.finite (omega arith)

pub summed-fourth-requires : goal.summed-fourth-requires
summed-fourth-requires c = finite_at _ _ c.requires.finite (omega arith)

pub loop-i-preserved : goal.loop-i-preserved
loop-i-preserved c =
    let l = c.loop-i in
    let a = c.args in
    let xs = a.samples.now in
    let d = a.d in (
      c.summed-first.ensures ∙ onward_first a.start xs l.i l.first l.invariant.0,
      c.summed-second.ensures ∙ onward_more zero64 xs d l.i l.second l.invariant.1,
      c.summed-third.ensures ∙ onward_more zero64 xs (d + d) l.i l.third l.invariant.2,
      c.summed-fourth.ensures ∙ onward_more zero64 xs (d + d + d) l.i l.fourth l.invariant.3,
    )

pub returns : goal.returns
returns c =
    let l = c.loop-i in
    let e : l.i ≡ c.args.d = omega arith in
    rw (l.invariant.0, l.invariant.1, l.invariant.2, l.invariant.3, e)
