use Rattle.std.proofs.Common.{◌≡◌, ℕ, ◌+◌, List, length, take}
use lib.Ieee.{Float}
use Rattle.folds.specs.Sums.{upto, table, at, square}
use Rattle.folds.proofs.prefixes.Given as goal

-- the squares that the second list sums
abbrev pub squared : List Float → ℕ → Float
squared xs i = square (at xs i)

abbrev pub invariant-loop-i : goal.invariant-loop-i
invariant-loop-i l =
    (length l.sums ≡ length l.xs + 1) ×
    (length l.squares ≡ length l.xs + 1) ×
    (l.total ≡ upto (at l.xs) l.i) ×
    (l.energy ≡ upto (squared l.xs) l.i) ×
    (take (l.i + 1) l.sums ≡ table (upto (at l.xs)) (l.i + 1)) ×
    (take (l.i + 1) l.squares ≡ table (upto (squared l.xs)) (l.i + 1))
