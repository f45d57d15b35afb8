-- `root_table::whole_root` meets its contract: two steps from a near guess, and one correction.
use Rattle.std.proofs.Common.{ℕ, ◌≡◌, ◌+◌, ◌/◌, ◌^◌, ◌≤◌, ◌<◌}
use native.Mathlib.Nat.{lt_of_le_of_lt, mul-le-mul}
use native.Mathlib.Omega.{arith}
use lib.Dec.{lit<}
use Rattle.root_table.specs.Guesses.{Near}
use Rattle.root_table.proofs.Steps.{Above, guess_low, guess_high, above_low, above_high, first, second, level, down}
use Rattle.root_table.proofs.whole_root.Goals as goal

near_once : (m g a : ℕ) → 2 ^ 52 ≤ m → m < 2 ^ 54 → Near m g → a ≡ (g + m / g) / 2 → Above 34 m a
near_once m g a l h n e = rw e (first m l h g n)

near_twice : (m g a r : ℕ) → 2 ^ 52 ≤ m → m < 2 ^ 54 → Near m g → a ≡ (g + m / g) / 2 → r ≡ (a + m / a) / 2 → Above 1 m r
near_twice m g a r l h n e e' = rw e' (second m l h a (near_once m g a l h n e))

pub newton-a-requires : goal.newton-a-requires
newton-a-requires c = let low = guess_low c.args.m c.requires.0 c.requires.1 c.guess-g.result c.guess-g.ensures in
    let high = guess_high c.args.m c.requires.0 c.requires.1 c.guess-g.result c.guess-g.ensures in
    (omega (arith, low), omega (arith, high), c.requires.1)

pub newton-r-requires : goal.newton-r-requires
newton-r-requires c = (omega (arith, above_low c.args.m c.requires.0 c.requires.1 (near_once c.args.m c.guess-g.result c.newton-a.result c.requires.0 c.requires.1 c.guess-g.ensures c.newton-a.ensures)), omega (arith, above_high c.args.m c.requires.0 c.requires.1 (near_once c.args.m c.guess-g.result c.newton-a.result c.requires.0 c.requires.1 c.guess-g.ensures c.newton-a.ensures)), c.requires.1)

pub overflow_mul-r : goal.overflow_mul-r
overflow_mul-r c = let l : c.newton-r.result ≤ 2 ^ 27 = omega (arith, above_high c.args.m c.requires.0 c.requires.1 (near_twice c.args.m c.guess-g.result c.newton-a.result c.newton-r.result c.requires.0 c.requires.1 c.guess-g.ensures c.newton-a.ensures c.newton-r.ensures)) in
    record { fits = lt_of_le_of_lt (mul-le-mul l l) (lit< tt) }

pub overflow_sub-result : goal.overflow_sub-result
overflow_sub-result c = omega (arith, above_low c.args.m c.requires.0 c.requires.1 (near_twice c.args.m c.guess-g.result c.newton-a.result c.newton-r.result c.requires.0 c.requires.1 c.guess-g.ensures c.newton-a.ensures c.newton-r.ensures))

pub returns-then-m-r : goal.returns-then-m-r
returns-then-m-r c = down c.args.m c.newton-r.result (near_twice c.args.m c.guess-g.result c.newton-a.result c.newton-r.result c.requires.0 c.requires.1 c.guess-g.ensures c.newton-a.ensures c.newton-r.ensures) c.if-m-r.true

pub returns : goal.returns
returns c = level c.args.m c.newton-r.result (near_twice c.args.m c.guess-g.result c.newton-a.result c.newton-r.result c.requires.0 c.requires.1 c.guess-g.ensures c.newton-a.ensures c.newton-r.ensures) c.if-m-r.false
