-- `scan_decision::rule` meets its contract.
use mathlib.Core.Path.{ap, ◌∙◌}
use lib.ListN.{length}
use Rattle.floats.proofs.Laws.{narrow_only}
use Rattle.folds.proofs.Laws.{length_table}
use Rattle.scan_decision.proofs.Fourth.{banks, decides}
use native.Mathlib.Omega.{arith}
use Rattle.scan_decision.proofs.rule.Goals as goal

pub returns-then-banked-lt-COARSE_MIN_FRAMES : goal.returns-then-banked-lt-COARSE_MIN_FRAMES
returns-then-banked-lt-COARSE_MIN_FRAMES c =
    let a = c.args in
    banks a.g a.v a.peak a.sums.now _ _ (omega arith) (narrow_only a.peak _ c.narrowed.ensures) c.verdict_by.ensures

pub decide-answer-requires : goal.decide-answer-requires
decide-answer-requires c =
    (c.requires.0, ap length c.average.ensures ∙ length_table _ _ ∙ c.requires.2)

pub returns : goal.returns
returns c =
    let a = c.args in
    decides a.g a.v a.peak a.sums.now _ _ _ _ (omega (arith, c.if-banked-lt-COARSE_MIN_FRAMES.false)) c.requires.2 c.average.ensures c.decide-answer.ensures c.clear64.ensures c.verdict_by-2.ensures
