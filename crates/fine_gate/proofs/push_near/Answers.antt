use Rattle.answers.proofs.Cases.{picks}
use Rattle.std.proofs.Common.{arith, eq-eqb, ne_eqb}
use Rattle.fine_gate.specs.Gate.{pushed_near}
use Rattle.fine_gate.proofs.Laws.{room, place}
use Rattle.fine_gate.proofs.push_near.Goals as goal

pub returns-then-refusal-ne0 : goal.returns-then-refusal-ne0
unfolding pushed_near
returns-then-refusal-ne0 c = simp (picks, ← c.near_refusal-refusal.ensures, ne_eqb _ _ c.if-refusal-ne0.true)

pub offset_bounds-near-fine : goal.offset_bounds-near-fine
offset_bounds-near-fine c = omega (arith, place c.args.fine _ _ _ c.near_refusal-refusal.ensures c.if-refusal-ne0.false, c.well_formed.1.0.1)

pub bounds-near-fine : goal.bounds-near-fine
bounds-near-fine c = place c.args.fine _ _ _ c.near_refusal-refusal.ensures c.if-refusal-ne0.false

pub took_one-requires : goal.took_one-requires
took_one-requires c = room c.args.fine _ _ _ c.near_refusal-refusal.ensures c.if-refusal-ne0.false

pub returns : goal.returns
unfolding pushed_near
returns c = simp (picks, ← c.near_refusal-refusal.ensures, eq-eqb _ _ c.if-refusal-ne0.false, c.took_one.ensures)
