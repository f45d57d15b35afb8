-- `scan_lags::score_lags` meets its contract.
use Rattle.std.proofs.Common.{◌≡◌, ℕ, length, sym, ap, ◌∙◌}
use Rattle.folds.specs.Sums.{table, at}
use Rattle.scan_lags.specs.Lags.{score_from}
use Rattle.scan_lags.proofs.score_lags.Goals as goal

-- the usual frame is the frame
pub returns-then-frame-eq-USUAL_FRAME : goal.returns-then-frame-eq-USUAL_FRAME
returns-then-frame-eq-USUAL_FRAME c =
    let a = c.args in
    let usual : a.frame ≡ 256 = c.if-frame-eq-USUAL_FRAME.true in
    let e = c.score_lags_with.ensures in
    record {
      scores = e.scores ∙ ap (λ (n : ℕ). table (λ k. score_from a.near.now a.window.now n a.power k (at a.scores.now k)) (length a.scores.now)) (sym usual);
      live = e.live;
    }
