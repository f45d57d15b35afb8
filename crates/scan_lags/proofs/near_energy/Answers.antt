-- `scan_lags::near_energy` meets its contract. Invariant: the energy is the sum of the squares before this one.
use Rattle.std.proofs.Common.{◌≡◌, ℕ, length, arith, rules}
use lib.Ieee.{of_bits}
use Rattle.folds.specs.Sums.{upto, square}
use Rattle.folds.proofs.Laws.{more}
use Rattle.scan.specs.Scoring.{centred, near_energy}
use Rattle.scan_lags.proofs.near_energy.Goals as goal

pub loop-level-init : goal.loop-level-init
unfolding upto of_bits
loop-level-init c = search rules

pub loop-level-preserved : goal.loop-level-preserved
loop-level-preserved c =
    let l = c.loop-level in
    let x = c.args.levels.now in
    (l.invariant.0, cc (more (λ (j : ℕ). square (centred x j)) l.level-index l.energy l.invariant.1))

pub returns : goal.returns
unfolding near_energy
returns c = let e : c.loop-level.level-index ≡ length c.args.levels.now = omega arith in cc
