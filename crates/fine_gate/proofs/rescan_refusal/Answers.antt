use Rattle.answers.proofs.Cases.{picks}
use Rattle.std.proofs.Common.{eq-eqb, ne_eqb}
use borrow.Author.Tests.{not-false}
use Rattle.fine_gate.specs.Gate.{rescan_refusal}
use Rattle.fine_gate.proofs.rescan_refusal.Goals as goal

pub returns-then-earlier-ne0 : goal.returns-then-earlier-ne0
unfolding rescan_refusal
returns-then-earlier-ne0 c = simp (picks, ← c.fits_rescan-fitting.ensures, ← c.first_refusals-earlier.ensures, ne_eqb _ _ c.if-earlier-ne0.true)

pub returns-then-not-fine : goal.returns-then-not-fine
unfolding rescan_refusal
returns-then-not-fine c = simp (picks, ← c.fits_rescan-fitting.ensures, ← c.first_refusals-earlier.ensures, eq-eqb _ _ c.if-earlier-ne0.false, c.if-not-fine.true)

pub returns-then-not-readable : goal.returns-then-not-readable
unfolding rescan_refusal
returns-then-not-readable c = simp (picks, ← c.fits_rescan-fitting.ensures, ← c.first_refusals-earlier.ensures, eq-eqb _ _ c.if-earlier-ne0.false, not-false c.args.fine.frames.retained c.if-not-fine.false, ← c.readable.ensures, c.if-not-readable.true)

pub returns : goal.returns
unfolding rescan_refusal
returns c = simp (picks, ← c.fits_rescan-fitting.ensures, ← c.first_refusals-earlier.ensures, eq-eqb _ _ c.if-earlier-ne0.false, not-false c.args.fine.frames.retained c.if-not-fine.false, ← c.readable.ensures, c.if-not-readable.false)
