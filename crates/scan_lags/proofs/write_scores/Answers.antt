-- `scan_lags::write_scores` meets its contract.
use Rattle.scan_lags.proofs.Whole.{all_scored, all_counted}
use Rattle.scan_lags.proofs.write_scores.Goals as goal

pub returns : goal.returns
returns c =
    let a = c.args in
    let scored = all_scored a.levels.now a.window.now _ _ c.centre.ensures c.widen.ensures _ _ _ _ _ _ c.prefixes.ensures.sums c.prefixes.ensures.squares c.write_energies.ensures c.near_energy-power.ensures c.score_lags-live.ensures.scores c.requires.lags in
    let counted = all_counted a.window.now _ _ _ _ _ _ c.prefixes.ensures.sums c.prefixes.ensures.squares c.write_energies.ensures c.score_lags-live.ensures.live in
    record {
      prefix = c.prefixes-2.ensures.sums;
      squares = c.prefixes-2.ensures.squares;
      scores = scored;
      live = counted;
    }
