-- `scan_lags::score_lag` meets its contract.
use Rattle.std.proofs.Common.{sym}
use lib.Ieee.{of_bits}
use Rattle.answers.proofs.Cases.{cases}
use Rattle.scan_lags.specs.Lags.{score_from}
use Rattle.scan_lags.proofs.Blocks.{counted_one_lem, counted_none}
use Rattle.scan_lags.proofs.score_lag.Goals as goal

pub returns-then-energy : goal.returns-then-energy
unfolding score_from of_bits
returns-then-energy c = record { score = search cases; live = sym (counted_none _ c.if-energy.true) }

pub returns : goal.returns
unfolding score_from
returns c = record { score = search (cases, ← c.products-sum.ensures, c.score.ensures); live = sym (counted_one_lem _ c.if-energy.false) }
