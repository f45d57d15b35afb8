use Rattle.answers.proofs.Cases.{picks}
use Rattle.std.proofs.Common.{eq-eqb, ne_eqb}
use Rattle.fine_gate.specs.Gate.{near_refusal}
use Rattle.fine_gate.proofs.near_refusal.Goals as goal

pub returns-then-earlier-ne0 : goal.returns-then-earlier-ne0
unfolding near_refusal
returns-then-earlier-ne0 c = simp (picks, ← c.is_frame-fitting.ensures, ← c.first_refusals-earlier.ensures, ne_eqb _ _ c.if-earlier-ne0.true)

pub returns-then-fine : goal.returns-then-fine
unfolding near_refusal
returns-then-fine c = simp (picks, ← c.is_frame-fitting.ensures, ← c.first_refusals-earlier.ensures, eq-eqb _ _ c.if-earlier-ne0.false, eq-eqb _ _ c.if-fine.true)

pub returns-then-not-is_finite32 : goal.returns-then-not-is_finite32
unfolding near_refusal
returns-then-not-is_finite32 c = simp (picks, ← c.is_frame-fitting.ensures, ← c.first_refusals-earlier.ensures, eq-eqb _ _ c.if-earlier-ne0.false, ne_eqb _ _ c.if-fine.false, ← c.is_finite32.ensures, c.if-not-is_finite32.true)

pub returns : goal.returns
unfolding near_refusal
returns c = simp (picks, ← c.is_frame-fitting.ensures, ← c.first_refusals-earlier.ensures, eq-eqb _ _ c.if-earlier-ne0.false, ne_eqb _ _ c.if-fine.false, ← c.is_finite32.ensures, c.if-not-is_finite32.false)
