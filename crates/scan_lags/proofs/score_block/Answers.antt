-- `scan_lags::score_block` meets its contract.
use Rattle.std.proofs.Common.{length, refl, ap, ◌∙◌}
use lib.Ieee.{of_bits}
use Rattle.folds.specs.Sums.{table, zeros}
use Rattle.folds.proofs.Laws.{length_table}
use Rattle.scan_lags.specs.Lags.{score_from}
use Rattle.scan_lags.proofs.Blocks.{live}
use Rattle.scan_lags.proofs.score_block.Goals as goal

pub products_of_block-requires : goal.products_of_block-requires
unfolding zeros table of_bits
products_of_block-requires c = (c.requires.table.1, refl)

pub score_sums-requires : goal.score_sums-requires
score_sums-requires c = let pre = c.requires.table in (pre.0, pre.2, ap length c.products_of_block.ensures ∙ length_table _ 16)

pub returns : goal.returns
returns c =
    let a = c.args in
    λ old r.
    c.score_sums.ensures (score_from a.near.now a.window.now a.frame a.power) old
    (live a.near.now a.window.now _ a.scores.now old a.frame a.k 16 a.power c.products_of_block.ensures c.requires.by_index r)
    r
