-- `scan_lags::score_some` meets its contract.
use Rattle.std.proofs.Common.{ℕ, ◌+◌, sym, ap, ◌∙◌, arith, length-set, rules}
use lib.Ieee.{Float, le}
use Rattle.folds.proofs.Rewriting.{one_more}
use Rattle.scan.specs.Scoring.{energy_floor}
use Rattle.scan_lags.specs.Lags.{score_from, above, above_in}
use Rattle.scan_lags.proofs.Blocks.{one_counted, block_counted}
use Rattle.scan_lags.proofs.score_some.Goals as goal

pub score_block-requires : goal.score_block-requires
score_block-requires c = record { table = (search rules, search rules, omega arith); by_index = c.all_live.ensures c.if-all_live.true }

pub returns-then-all_live : goal.returns-then-all_live
returns-then-all_live c =
    let a = c.args in
    let none-flat = c.all_live.ensures c.if-all_live.true in
    record {
      further = omega arith;
      inside = search rules;
      size = search rules;
      rewrites = λ old r. c.score_block.ensures old r;
      counts = λ old r. block_counted old a.k 16 (λ j h. ap (λ (x : Float). le x energy_floor) (sym (r.left (a.k + j) (omega arith))) ∙ none-flat j h);
    }

pub returns : goal.returns
returns c =
    let a = c.args in
    record {
      further = omega arith;
      inside = omega arith;
      size = length-set a.scores.now a.k _;
      rewrites = λ old r. one_more (score_from a.near.now a.window.now a.frame a.power) old a.k a.scores.now _ r (omega arith) c.score_lag-lag.ensures.score;
      counts = λ old r. one_counted old a.k ∙ ap (λ (n : ℕ). above_in old a.k + n) (ap above (sym (r.left a.k (omega arith))) ∙ sym c.score_lag-lag.ensures.live);
    }
