-- `folds::prefixes` meets its contract. Invariant: the two totals are the sums of the first i terms, and the first i + 1 prefix values stand.
use Rattle.std.proofs.Common.{◌≡◌, ◌+◌, length, refl, arith, length-set}
use lib.Ieee.{of_bits, binary64, add}
use Rattle.folds.specs.Sums.{upto, table, at, square, prefix_sums, prefix_squares}
use Rattle.folds.proofs.Laws.{more, grow, whole}
use Rattle.folds.proofs.prefixes.Invariants.{squared}
use Rattle.folds.proofs.prefixes.Goals as goal

pub loop-i-init : goal.loop-i-init
unfolding upto table of_bits
loop-i-init c =
    let a = c.args in
    (simp length-set (omega arith), simp length-set (omega arith), refl, refl, grow (upto (at a.xs.now)) a.sums.now 0 _ (omega arith) refl refl, grow (upto (squared a.xs.now)) a.squares.now 0 _ (omega arith) refl refl)

pub loop-i-preserved : goal.loop-i-preserved
loop-i-preserved c =
    let l = c.loop-i in
    let x = c.args.xs.now in
    let total : add binary64 l.total c.from-x.result ≡ upto (at x) (l.i + 1) = cc (more (at x) l.i l.total l.invariant.2) in
    let energy : add binary64 l.energy (square c.from-x.result) ≡ upto (squared x) (l.i + 1) = cc (more (squared x) l.i l.energy l.invariant.3) in (
      simp length-set (omega arith),
      simp length-set (omega arith),
      total,
      energy,
      grow (upto (at x)) l.sums (l.i + 1) _ (omega arith) l.invariant.4 total,
      grow (upto (squared x)) l.squares (l.i + 1) _ (omega arith) l.invariant.5 energy,
    )

pub returns : goal.returns
unfolding prefix_sums prefix_squares
returns c =
    let l = c.loop-i in
    let x = c.args.xs.now in
    let e : l.i ≡ length x = omega arith in
    record {
      sums = whole (upto (at x)) l.sums (length x + 1) l.invariant.0 (rw e at l.invariant.4);
      squares = whole (upto (squared x)) l.squares (length x + 1) l.invariant.1 (rw e at l.invariant.5);
    }
