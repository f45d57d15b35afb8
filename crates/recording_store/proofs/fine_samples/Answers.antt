-- `recording_store::fine_samples` meets its contract: all samples that the loop passed are fine.
use mathlib.Core.Path.{◌≡◌, sym, ap, ◌∙◌}
use mathlib.Core.Bool.{true, false}
use Prim.Native.Nat.{◌+◌}
use native.Mathlib.Omega.{arith}
use lib.Dec.{ltb}
use borrow.Author.Tests.{le-ltb}
use Rattle.answers.specs.Pick.{pick_false}
use Rattle.recording.proofs.Forms.{bytes_mono}
use Rattle.recording_convert.specs.Converting.{form_from}
use Rattle.recording_store.specs.Steps.{is_fine, code_at}
use Rattle.recording_store.proofs.Laws.{fine_none, fine_more, strange_here, found_at_lem}
use Rattle.recording_store.proofs.fine_samples.Goals as goal

pub loop-i-init : goal.loop-i-init
loop-i-init c = fine_none c.args.direction c.args.s.now

pub code_at-requires : goal.code_at-requires
code_at-requires c =
    let a = c.args in
    omega (arith, c.requires, bytes_mono (form_from a.direction) (c.loop-i.i + 1) a.n (omega arith))

pub returns-then-is_none : goal.returns-then-is_none
returns-then-is_none c =
    let a = c.args in
    let i = c.loop-i.i in
    let strange : is_fine (code_at a.direction a.s.now i) ≡ false = rw (← c.code_at.ensures) (c.is_none.ensures ∙ rw c.if-is_none.true) in
    (omega arith, found_at_lem a.direction a.s.now a.n i (omega arith) c.loop-i.invariant (strange_here i a.n _ strange))

pub loop-i-preserved : goal.loop-i-preserved
loop-i-preserved c =
    let a = c.args in
    let i = c.loop-i.i in
    let fine : is_fine (code_at a.direction a.s.now i) ≡ true = rw (← c.code_at.ensures) (c.is_none.ensures ∙ rw c.if-is_none.false) in
    fine_more a.direction a.s.now i c.loop-i.invariant fine

pub returns : goal.returns
returns c =
    let a = c.args in
    let i = c.loop-i.i in
    let all : i ≡ a.n = omega arith in
    (omega arith, found_at_lem a.direction a.s.now a.n a.n (omega arith) (rw all at c.loop-i.invariant) (pick_false _ _ _ (le-ltb a.n a.n (omega arith))))
