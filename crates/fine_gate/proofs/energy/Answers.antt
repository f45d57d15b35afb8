-- `fine_gate::energy` meets its contract. Invariant: the sum of the squares so far.
use Rattle.std.proofs.Common.{◌≡◌, ℕ, length, arith, rules}
use lib.Ieee.{of_bits}
use Rattle.folds.specs.Sums.{upto, at, square}
use Rattle.folds.proofs.Laws.{more}
use Rattle.fine_gate.specs.Gate.{energy_of}
use Rattle.fine_gate.proofs.energy.Goals as goal

pub loop-sample-init : goal.loop-sample-init
unfolding upto of_bits
loop-sample-init c = search rules

pub loop-sample-preserved : goal.loop-sample-preserved
loop-sample-preserved c =
    let l = c.loop-sample in
    let xs = c.args.xs.now in
    cc (more (λ (j : ℕ). square (at xs j)) l.sample-index l.sum l.invariant)

pub returns : goal.returns
unfolding energy_of
returns c = let e : c.loop-sample.sample-index ≡ length c.args.xs.now = omega arith in cc
