-- `ring_window::blanks::blank` meets its contract. Invariant: i places are blank.
use Prim.Native.Nat.{◌<◌}
use mathlib.Core.Path.{◌≡◌, refl}
use native.Mathlib.Numerals.{add-one}
use native.Mathlib.Omega.{arith}
use lib.ListN.{replicate, length-set, length-replicate, get_or-replicate}
use lib.Seq.{paste-zero, paste-suc}
use Rattle.ring_window.proofs.blanks.blank.Goals as goal

pub loop-i-init : goal.loop-i-init
loop-i-init g c = let a = c.args in (refl, paste-zero a.window.now a.from (replicate a.n a.x))

pub loop-i-preserved : goal.loop-i-preserved
loop-i-preserved g c =
    let l = c.loop-i in
    let a = c.args in
    let h : l.i < a.n = omega arith in
    let e = get_or-replicate a.n l.i a.x a.x h in (
      simp length-set l.invariant.0,
      rw add-one (rw l.invariant.1 (rw e at (paste-suc a.window.now a.from (replicate a.n a.x) l.i a.x (omega arith) (omega (arith, length-replicate a.n a.x))))),
    )

pub returns : goal.returns
returns g c =
    let l = c.loop-i in
    let e : l.i ≡ c.args.n = omega arith in
    rw e at l.invariant.1
