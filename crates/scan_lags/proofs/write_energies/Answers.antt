-- `scan_lags::write_energies` meets its contract. Invariant: the first k energies stand.
use Rattle.std.proofs.Common.{◌≡◌, length, refl, arith, length-set}
use Rattle.folds.specs.Sums.{table}
use Rattle.folds.proofs.Laws.{grow, whole}
use Rattle.scan_lags.specs.Lags.{energy_from}
use Rattle.scan_lags.proofs.write_energies.Goals as goal

pub loop-k-init : goal.loop-k-init
unfolding table
loop-k-init c = (refl, refl)

pub loop-k-preserved : goal.loop-k-preserved
loop-k-preserved c =
    let l = c.loop-k in
    let a = c.args in
    (simp length-set l.invariant.0, grow (energy_from a.sums.now a.squares.now a.frame) l.energies l.k _ (omega arith) l.invariant.1 c.energy_at.ensures)

pub returns : goal.returns
returns c =
    let l = c.loop-k in
    let a = c.args in
    let e : l.k ≡ length a.energies.now = omega arith in
    whole (energy_from a.sums.now a.squares.now a.frame) l.energies (length a.energies.now) l.invariant.0 (rw e at l.invariant.1)
