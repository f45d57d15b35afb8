use Rattle.answers.proofs.Cases.{picks}
use Rattle.std.proofs.Common.{◌+◌, ◌^◌, ◌≤◌, arith, le→leb, eq-eqb, ne_eqb}
use lib.Ieee.{in_float}
use Rattle.fine_peak.specs.Peak.{searched}
use Rattle.fine_peak.proofs.Laws.{entries_there, sound, peak_within}
use Rattle.fine_peak.proofs.peak.Goals as goal

pub returns-then-refusal-ne0 : goal.returns-then-refusal-ne0
unfolding searched
returns-then-refusal-ne0 c = simp (picks, ← c.peak_refusal-refusal.ensures, ne_eqb _ _ c.if-refusal-ne0.true)

pub survey-seen-requires : goal.survey-seen-requires
survey-seen-requires c = entries_there c.args.fine c.args.correlation.now _ c.peak_refusal-refusal.ensures c.if-refusal-ne0.false

pub int_to_float-mean : goal.int_to_float-mean
unfolding in_float
int_to_float-mean c = let h : c.args.fine.lengths.span + 1 ≤ 2 ^ 53 = omega (arith, (sound c.args.fine c.args.correlation.now _ c.peak_refusal-refusal.ensures c.if-refusal-ne0.false).most) in le→leb _ _ h

pub rule-requires : goal.rule-requires
rule-requires c = ((sound c.args.fine c.args.correlation.now _ c.peak_refusal-refusal.ensures c.if-refusal-ne0.false).origin, peak_within c.args.correlation.now c.args.fine.lengths.span _ c.survey-seen.ensures)

pub returns : goal.returns
unfolding searched
returns c = simp (picks, ← c.peak_refusal-refusal.ensures, eq-eqb _ _ c.if-refusal-ne0.false, c.rule.ensures, ← c.survey-seen.ensures)
