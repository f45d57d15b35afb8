-- `scan_score::window::fill` meets its contract. Invariant: the slot is bin start + i's, and the first i bins stand.
use Prim.Native.Nat.{ℕ, ◌+◌}
use mathlib.Core.Path.{◌≡◌, refl, ap, ◌∙◌}
use lib.ListN.{length, length-set}
use lib.Dec.{ltb}
use Rattle.answers.specs.Pick.{pick}
use Rattle.floats.specs.Functions.{zero64}
use Rattle.folds.specs.Sums.{table, at}
use Rattle.folds.proofs.Laws.{grow, whole}
use Rattle.scan_score.specs.Observing.{bin_in}
use Rattle.scan_score.proofs.Slots.{in_slot}
use native.Mathlib.Omega.{arith}
use Rattle.scan_score.proofs.window.fill.Goals as goal

pub loop-i-init : goal.loop-i-init
unfolding table
loop-i-init c =
    let z : c.args.start + 0 ≡ c.args.start = omega arith in
    (refl, rw z, refl)

pub overflow_add-start : goal.overflow_add-start
overflow_add-start c = omega (arith, c.requires.1, c.loop-i.invariant.0)

pub bin_at-requires : goal.bin_at-requires
bin_at-requires c = in_slot _ _ _ c.loop-i.invariant.1 c.requires.0

pub slot_after-slot-requires : goal.slot_after-slot-requires
slot_after-slot-requires c = in_slot _ _ _ c.loop-i.invariant.1 c.requires.0

pub loop-i-preserved : goal.loop-i-preserved
loop-i-preserved c =
    let a = c.args in
    let l = c.loop-i in
    let z : a.start + (l.i + 1) ≡ a.start + l.i + 1 = omega arith in
    let is = c.bin_at.ensures ∙ ap (λ (s : ℕ). pick (ltb (a.start + l.i) a.next) (at a.envelope.now s) zero64) l.invariant.1 in
    (simp length-set l.invariant.0, rw z (c.slot_after-slot.ensures (a.start + l.i) l.invariant.1), grow (λ (j : ℕ). bin_in a.envelope.now a.next (a.start + j)) l.window l.i _ (omega arith) l.invariant.2 is)

pub returns : goal.returns
returns c =
    let a = c.args in
    let l = c.loop-i in
    let e : l.i ≡ length a.window.now = omega arith in
    whole (λ (j : ℕ). bin_in a.envelope.now a.next (a.start + j)) l.window (length a.window.now) l.invariant.0 (rw e at l.invariant.2)
