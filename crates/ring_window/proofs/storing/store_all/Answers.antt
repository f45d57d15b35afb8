-- `ring_window::storing::store_all` meets its contract. The invariant: what is left to store makes of the buffer what all of it makes of the first.
use Prim.Native.Nat.{ℕ, ◌≤◌, ◌<◌, ◌+◌}
use mathlib.Core.Path.{refl, sym, ap, ◌∙◌}
use mathlib.Core.List.{List, ◌∷◌, map}
use native.Mathlib.Nat.{add-zero, mod-lt}
use native.Mathlib.Numerals.{add-one}
use native.Mathlib.Omega.{arith}
use lib.ListN.{length, drop, get_or, length-set, drop_of_length-le}
use lib.Seq.{drop-cons}
use lib.Ieee.{Float, nan, binary32, to_bits}
use Rattle.ring.specs.Ring.{stored}
use Rattle.ring_window.proofs.Slots.{next_slot, store_step}
use borrow.Author.Rules.{rules}
use Rattle.ring_window.proofs.storing.store_all.Goals as goal

pub loop-sample-init : goal.loop-sample-init
loop-sample-init c = (refl, rw add-zero, rw add-zero)

pub offset_bounds-buf-slot : goal.offset_bounds-buf-slot
offset_bounds-buf-slot c =
    let l = c.loop-sample in
    let a = c.args in
    let h : l.slot < length l.buf = omega (arith, l.invariant.0, l.invariant.1, mod-lt (a.next + l.sample-index) c.requires.0) in
    search rules

pub bounds-buf-slot : goal.bounds-buf-slot
bounds-buf-slot c =
    let l = c.loop-sample in
    let a = c.args in
    let h : l.slot < length l.buf = omega (arith, l.invariant.0, l.invariant.1, mod-lt (a.next + l.sample-index) c.requires.0) in
    h

pub after-slot-requires : goal.after-slot-requires
after-slot-requires c =
    let l = c.loop-sample in
    let a = c.args in
    omega (arith, l.invariant.1, mod-lt (a.next + l.sample-index) c.requires.0)

pub loop-sample-preserved : goal.loop-sample-preserved
loop-sample-preserved c =
    let l = c.loop-sample in
    let a = c.args in
    let xs = a.samples.now in
    let h : l.sample-index < length xs = omega arith in
    let step = ap (λ (ys : List Float). stored (a.next + l.sample-index) l.buf (map (to_bits binary32) ys)) (sym (drop-cons xs l.sample-index nan h ∙ ap (λ (k : ℕ). get_or xs l.sample-index nan ∷ drop k xs) (sym (add-one l.sample-index)))) ∙ l.invariant.2 in (
      simp length-set l.invariant.0,
      c.after-slot.ensures ∙ next_slot a.next l.sample-index l.slot (length a.buf.now) l.invariant.1,
      store_step a.next l.sample-index l.slot _ _ a.buf.now l.buf (map (to_bits binary32) (drop (l.sample-index + 1) xs)) (stored a.next a.buf.now (map (to_bits binary32) xs)) c.pattern32.ensures l.invariant.1 l.invariant.0 step,
    )

pub returns : goal.returns
returns c =
    let l = c.loop-sample in
    let xs = c.args.samples.now in
    let h : length xs ≤ l.sample-index = omega arith in
    rw (drop_of_length-le xs h) at l.invariant.2
