-- `ring::store_all` meets its contract. The invariant: what is left to store makes of the buffer what all of it makes of the first.
use Prim.Native.Nat.{◌≤◌, ◌<◌}
use mathlib.Core.Path.{refl}
use native.Mathlib.Nat.{add-zero, add_assoc}
use native.Mathlib.Numerals.{add-one}
use native.Mathlib.Omega.{arith}
use lib.ListN.{length, drop_of_length-le}
use lib.Seq.{drop-cons}
use borrow.Author.Rules.{rules}
use Rattle.ring.proofs.store_all.Goals as goal

pub loop-i-init : goal.loop-i-init
loop-i-init c = (refl, rw add-zero)

pub loop-i-preserved : goal.loop-i-preserved
loop-i-preserved c =
    let k = c.loop-i in
    let xs = c.args.samples.now in
    let h : k.i < length xs = omega arith in (
      search rules,
      rw (c.slot-at.ensures.0, ← add_assoc, add-one k.i) (rw (drop-cons xs k.i 0 h) at k.invariant.1),
    )

pub returns : goal.returns
returns c =
    let k = c.loop-i in
    let xs = c.args.samples.now in
    let h : length xs ≤ k.i = omega arith in
    rw (drop_of_length-le xs h) at k.invariant.1
