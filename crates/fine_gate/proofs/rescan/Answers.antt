use Rattle.answers.proofs.Cases.{picks}
use Rattle.std.proofs.Common.{eq-eqb, ne_eqb}
use borrow.Author.Tests.{not-true, not-false}
use Rattle.fine_gate.specs.Gate.{rescanned}
use Rattle.fine_gate.proofs.rescan.Goals as goal

pub returns-then-refusal-ne0 : goal.returns-then-refusal-ne0
unfolding rescanned
returns-then-refusal-ne0 c = simp (picks, ← c.rescan_refusal-refusal.ensures, ne_eqb _ _ c.if-refusal-ne0.true)

pub returns-then-not-fine : goal.returns-then-not-fine
unfolding rescanned
returns-then-not-fine c = simp (picks, ← c.rescan_refusal-refusal.ensures, eq-eqb _ _ c.if-refusal-ne0.false, not-true c.args.fine.frames.retained c.if-not-fine.true)

pub returns : goal.returns
unfolding rescanned
returns c = simp (picks, ← c.rescan_refusal-refusal.ensures, eq-eqb _ _ c.if-refusal-ne0.false, not-false c.args.fine.frames.retained c.if-not-fine.false, ← c.judge-passage.ensures, c.rescan_answer.ensures)
