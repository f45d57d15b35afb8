-- `scan_score::window::bins_finite` meets its contract. Invariant: the slot is bin start + i's, and the first i bins are finite.
use Prim.Native.Nat.{ℕ, ◌+◌}
use mathlib.Core.Path.{◌≡◌, sym, ap, ◌∙◌}
use lib.Dec.{ltb}
use borrow.Author.Tests.{not-true, not-false}
use Rattle.answers.specs.Pick.{pick}
use Rattle.floats.specs.Functions.{zero64}
use Rattle.folds.specs.Sums.{at}
use Rattle.scan_score.specs.Observing.{bin_in}
use Rattle.scan_score.proofs.Slots.{none_read, one_more_finite, one_not_finite, in_slot}
use native.Mathlib.Omega.{arith}
use Rattle.scan_score.proofs.window.bins_finite.Goals as goal

pub loop-i-init : goal.loop-i-init
loop-i-init c =
    let z : c.args.start + 0 ≡ c.args.start = omega arith in
    (rw z, none_read _)

pub overflow_add-start : goal.overflow_add-start
overflow_add-start c = omega (arith, c.requires.1)

pub bin_at-requires : goal.bin_at-requires
bin_at-requires c = in_slot _ _ _ c.loop-i.invariant.0 c.requires.0

pub returns-then-not-is_finite32 : goal.returns-then-not-is_finite32
returns-then-not-is_finite32 c =
    let a = c.args in
    let l = c.loop-i in
    let is = c.bin_at.ensures ∙ ap (λ (s : ℕ). pick (ltb (a.start + l.i) a.next) (at a.envelope.now s) zero64) l.invariant.0 in
    one_not_finite (λ (j : ℕ). bin_in a.envelope.now a.next (a.start + j)) l.i a.n _ (omega arith) is (sym c.is_finite32.ensures ∙ not-true _ c.if-not-is_finite32.true-raw)

pub slot_after-slot-requires : goal.slot_after-slot-requires
slot_after-slot-requires c = in_slot _ _ _ c.loop-i.invariant.0 c.requires.0

pub loop-i-preserved : goal.loop-i-preserved
loop-i-preserved c =
    let a = c.args in
    let l = c.loop-i in
    let z : a.start + (l.i + 1) ≡ a.start + l.i + 1 = omega arith in
    let is = c.bin_at.ensures ∙ ap (λ (s : ℕ). pick (ltb (a.start + l.i) a.next) (at a.envelope.now s) zero64) l.invariant.0 in
    (rw z (c.slot_after-slot.ensures (a.start + l.i) l.invariant.0), one_more_finite (λ (j : ℕ). bin_in a.envelope.now a.next (a.start + j)) l.i _ is (sym c.is_finite32.ensures ∙ not-false _ c.if-not-is_finite32.false-raw) l.invariant.1)

pub returns : goal.returns
returns c = let e : c.loop-i.i ≡ c.args.n = omega arith in sym (rw e at c.loop-i.invariant.1)
