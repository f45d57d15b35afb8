-- `fine_handover::refusal` meets its contract.
use mathlib.Core.Path.{sym}
use native.Mathlib.Omega.{arith}
use lib.Seq.{length-take-le}
use Rattle.answers.proofs.Cases.{cases, picks}
use borrow.Author.Tests.{eq-eqb, ne_eqb}
use Rattle.fine_handover.specs.Handover.{run_refusal}
use Rattle.fine_handover.proofs.refusal.Goals as goal

pub returns-then-earlier-ne0 : goal.returns-then-earlier-ne0
unfolding run_refusal
returns-then-earlier-ne0 c = search (cases, ← c.judge-earlier.ensures)

pub returns-then-samples-eq0 : goal.returns-then-samples-eq0
unfolding run_refusal
returns-then-samples-eq0 c = search (cases, ← c.judge-earlier.ensures)

pub returns-then-fine : goal.returns-then-fine
unfolding run_refusal
returns-then-fine c = search (cases, ← c.judge-earlier.ensures)

pub slice_bounds-all_finite-end : goal.slice_bounds-all_finite-end
slice_bounds-all_finite-end c =
    let xs = c.args.samples.now in
    sym (length-take-le _ xs (omega (arith, c.takes-end.ensures)))

pub returns-then-not-all_finite : goal.returns-then-not-all_finite
unfolding run_refusal
returns-then-not-all_finite c = simp (picks, ← c.judge-earlier.ensures, eq-eqb _ _ c.if-earlier-ne0.false, ne_eqb _ _ c.if-samples-eq0.false, ne_eqb _ _ c.if-fine.false, ← c.takes-end.ensures, ← c.all_finite.ensures, c.if-not-all_finite.true)

pub returns : goal.returns
unfolding run_refusal
returns c = simp (picks, ← c.judge-earlier.ensures, eq-eqb _ _ c.if-earlier-ne0.false, ne_eqb _ _ c.if-samples-eq0.false, ne_eqb _ _ c.if-fine.false, ← c.takes-end.ensures, ← c.all_finite.ensures, c.if-not-all_finite.false)
