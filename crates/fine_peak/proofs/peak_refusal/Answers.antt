use Rattle.std.proofs.Common.{sym, length-take-le, eq-eqb, ne_eqb}
use Rattle.answers.proofs.Cases.{picks}
use Rattle.fine_peak.specs.Peak.{peak_refusal}
use Rattle.fine_peak.proofs.Laws.{long_enough}
use Rattle.fine_peak.proofs.peak_refusal.Goals as goal

pub returns-then-earlier-ne0 : goal.returns-then-earlier-ne0
unfolding peak_refusal
returns-then-earlier-ne0 c = simp (picks, ← c.first_refusals-earlier.ensures, ne_eqb _ _ c.if-earlier-ne0.true)

pub slice_bounds-all_finite-end : goal.slice_bounds-all_finite-end
slice_bounds-all_finite-end c = sym (length-take-le _ _ (long_enough c.args.fine _ _ _ c.first_refusals-earlier.ensures c.if-earlier-ne0.false))

pub returns-then-not-all_finite : goal.returns-then-not-all_finite
unfolding peak_refusal
returns-then-not-all_finite c = simp (picks, ← c.first_refusals-earlier.ensures, eq-eqb _ _ c.if-earlier-ne0.false, ← c.all_finite.ensures, c.if-not-all_finite.true)

pub returns : goal.returns
unfolding peak_refusal
returns c = simp (picks, ← c.first_refusals-earlier.ensures, eq-eqb _ _ c.if-earlier-ne0.false, ← c.all_finite.ensures, c.if-not-all_finite.false)
