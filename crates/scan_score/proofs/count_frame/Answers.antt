-- `scan_score::count_frame` meets its contract.
use mathlib.Core.Path.{sym, ap, ◌∙◌}
use lib.ListN.{length}
use Rattle.folds.proofs.Laws.{length_table}
use Rattle.scan_score.proofs.Passing.{small, few}
use Rattle.scan_score.proofs.Steps.{counts}
use native.Mathlib.Omega.{arith}
use Rattle.scan_score.proofs.count_frame.Goals as goal

pub write_scores-live-requires : goal.write_scores-live-requires
write_scores-live-requires c =
    let f = c.requires.0 in
    record { frame = omega (arith, f.levels, c.requires.1.frame); sums = omega (arith, f.prefix, f.window); energies = omega (arith, f.squares, f.window); lags = omega (arith, f.scores, f.levels, f.window) }

pub overflow_mul-products : goal.overflow_mul-products
overflow_mul-products c =
    record { fits = few c.args.scan.geometry _ _ _ _ c.requires.1 c.write_scores-live.ensures.live c.requires.0.scores }

pub add_scores-requires : goal.add_scores-requires
add_scores-requires c =
    ap length c.write_scores-live.ensures.scores ∙ length_table _ _ ∙ c.requires.0.scores ∙ sym c.requires.0.lag_sums

pub rule-ruled-requires : goal.rule-ruled-requires
rule-ruled-requires c =
    (small _ c.requires.1, c.requires.2, ap length c.add_scores.ensures ∙ length_table _ _ ∙ c.requires.0.lag_sums)

pub returns : goal.returns
returns c =
    let a = c.args in
    λ e w.
    counts a.scan e a.levels.now w a.window.now a.prefix.now a.squares.now a.scores.now a.sums.now _ _ _ _ _ _ _ _ _
    c.requires.0.scores c.requires.0.lag_sums
    c.write_scores-live.ensures.prefix c.write_scores-live.ensures.squares c.write_scores-live.ensures.scores c.search_down-peak.ensures c.add_scores.ensures c.rule-ruled.ensures c.write_scores-live.ensures.live c.after.ensures
