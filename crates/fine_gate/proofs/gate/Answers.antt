use Rattle.answers.proofs.Cases.{picks}
use Rattle.std.proofs.Common.{eq-eqb, ne_eqb}
use Rattle.fine_gate.specs.Gate.{gated}
use Rattle.fine_gate.proofs.Laws.{one_length}
use Rattle.fine_gate.proofs.gate.Goals as goal

pub returns-then-refusal-ne0 : goal.returns-then-refusal-ne0
unfolding gated
returns-then-refusal-ne0 c = simp (picks, ← c.gate_refusal-refusal.ensures, ne_eqb _ _ c.if-refusal-ne0.true)

pub retain-requires : goal.retain-requires
retain-requires c = one_length c.args.fine _ _ _ _ _ _ c.gate_refusal-refusal.ensures c.if-refusal-ne0.false

pub returns : goal.returns
unfolding gated
returns c = simp (picks, ← c.gate_refusal-refusal.ensures, eq-eqb _ _ c.if-refusal-ne0.false, ← c.judge-passage.ensures, c.passed.ensures, c.retain.ensures)
