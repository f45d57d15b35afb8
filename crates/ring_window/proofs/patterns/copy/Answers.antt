-- `ring_window::patterns::copy` meets its contract. Invariant: i patterns are copied.
use mathlib.Core.Path.{◌≡◌, refl}
use native.Mathlib.Numerals.{add-one}
use native.Mathlib.Omega.{arith}
use lib.ListN.{drop, length-set, length-drop}
use lib.Seq.{paste-zero, paste-suc, get_or-drop}
use Rattle.ring_window.proofs.patterns.copy.Goals as goal

pub loop-i-init : goal.loop-i-init
loop-i-init c = (refl, paste-zero c.args.window.now c.args.to (drop c.args.slot c.args.buf.now))

pub loop-i-preserved : goal.loop-i-preserved
loop-i-preserved c =
    let l = c.loop-i in
    let a = c.args in
    let e = get_or-drop a.slot a.buf.now l.i 0 in (
      simp length-set l.invariant.0,
      rw add-one (rw l.invariant.1 (rw e at (paste-suc a.window.now a.to (drop a.slot a.buf.now) l.i 0 (omega arith) (omega (arith, length-drop a.slot a.buf.now))))),
    )

pub returns : goal.returns
returns c =
    let l = c.loop-i in
    let e : l.i ≡ c.args.n = omega arith in
    rw e at l.invariant.1
