use Rattle.answers.proofs.Cases.{picks}
use Rattle.std.proofs.Common.{eq-eqb, ne_eqb}
use Rattle.fine_gate.specs.Gate.{gate_refusal}
use Rattle.fine_gate.proofs.gate_refusal.Goals as goal

pub returns-then-earlier-ne0 : goal.returns-then-earlier-ne0
unfolding gate_refusal
returns-then-earlier-ne0 c = simp (picks, ← c.fits_gate-fitting.ensures, ← c.first_refusals-earlier.ensures, ne_eqb _ _ c.if-earlier-ne0.true)

pub returns-then-fine : goal.returns-then-fine
unfolding gate_refusal
returns-then-fine c = simp (picks, ← c.fits_gate-fitting.ensures, ← c.first_refusals-earlier.ensures, eq-eqb _ _ c.if-earlier-ne0.false, ne_eqb _ _ c.if-fine.true)

pub returns-then-not-readable : goal.returns-then-not-readable
unfolding gate_refusal
returns-then-not-readable c = simp (picks, ← c.fits_gate-fitting.ensures, ← c.first_refusals-earlier.ensures, eq-eqb _ _ c.if-earlier-ne0.false, eq-eqb _ _ c.if-fine.false, ← c.readable.ensures, c.if-not-readable.true)

pub returns : goal.returns
unfolding gate_refusal
returns c = simp (picks, ← c.fits_gate-fitting.ensures, ← c.first_refusals-earlier.ensures, eq-eqb _ _ c.if-earlier-ne0.false, eq-eqb _ _ c.if-fine.false, ← c.readable.ensures, c.if-not-readable.false)
