-- `fine_handover::fill` meets its contract. Invariant: the first i samples are pasted.
use mathlib.Core.Path.{◌≡◌, refl}
use native.Mathlib.Numerals.{add-one}
use native.Mathlib.Omega.{arith}
use lib.ListN.{length-set}
use lib.Seq.{paste-zero, paste-suc}
use lib.Ieee.{nan}
use Rattle.fine_handover.proofs.fill.Goals as goal

pub loop-i-init : goal.loop-i-init
loop-i-init c = (refl, paste-zero c.args.near.now c.args.at c.args.samples.now)

pub loop-i-preserved : goal.loop-i-preserved
loop-i-preserved c =
    let l = c.loop-i in
    let a = c.args in (
      simp length-set l.invariant.0,
      rw add-one (rw l.invariant.1 (paste-suc a.near.now a.at a.samples.now l.i nan (omega (arith, l.invariant.0)) (omega arith))),
    )

pub returns : goal.returns
returns c =
    let l = c.loop-i in
    let e : l.i ≡ c.args.n = omega arith in
    rw e at l.invariant.1
