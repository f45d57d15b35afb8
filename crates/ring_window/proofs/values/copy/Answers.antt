-- `ring_window::values::copy` meets its contract. Invariant: i samples are copied.
use Prim.Native.Nat.{◌+◌, ◌-◌, ◌≤◌, ◌<◌}
use mathlib.Core.Path.{◌≡◌, refl, sym, ap, ◌∙◌}
use native.Mathlib.Numerals.{add-one}
use native.Mathlib.Omega.{arith}
use mathlib.Core.List.{map}
use lib.ListN.{length, drop, length-set, length-drop, length-map, get_or-map}
use lib.Seq.{paste-zero, paste-suc}
use Rattle.std.proofs.Common.{length-take-le}
use Rattle.std.proofs.lemmas.List.{get_or-take}
use lib.Ieee.{binary32, of_bits}
use Rattle.ring_window.proofs.values.copy.Goals as goal

pub loop-i-init : goal.loop-i-init
loop-i-init c = (refl, let a = c.args in paste-zero a.window.now a.to (map (of_bits binary32) (drop a.slot a.buf.now)))

pub loop-i-preserved : goal.loop-i-preserved
loop-i-preserved c =
    let l = c.loop-i in
    let a = c.args in
    let xs = drop a.slot a.buf.now in
    let inside : a.slot + a.n - a.slot ≤ length xs = omega (arith, length-drop a.slot a.buf.now) in
    let few : l.i < a.slot + a.n - a.slot = omega (arith, length-take-le _ _ inside) in
    let e = get_or-map (of_bits binary32) xs l.i 0 ∙ ap (of_bits binary32) (sym (get_or-take (a.slot + a.n - a.slot) xs l.i 0 few)) ∙ sym c.float32.ensures in
    let long = length-map xs (of_bits binary32) in
    let left = length-drop a.slot a.buf.now in (
      simp length-set l.invariant.0,
      rw add-one (rw l.invariant.1 (rw e at (paste-suc a.window.now a.to (map (of_bits binary32) xs) l.i (of_bits binary32 0) (omega arith) (omega (arith, long, left))))),
    )

pub returns : goal.returns
returns c =
    let l = c.loop-i in
    let a = c.args in
    let inside : a.slot + a.n - a.slot ≤ length (drop a.slot a.buf.now) = omega (arith, length-drop a.slot a.buf.now) in
    let e : l.i ≡ a.n = omega (arith, length-take-le _ _ inside) in
    rw e at l.invariant.1
