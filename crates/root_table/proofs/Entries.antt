-- The rule of the table, carried to each of its entries: a guess is near every number that its entry serves.
use mathlib.Core.Path.{◌≡◌}
use mathlib.Core.Bool.{true}
use mathlib.Core.List.{List, [], ◌∷◌}
use Prim.Native.Nat.{ℕ, zero, suc, ◌+◌, ◌-◌, ◌*◌, ◌^◌, ◌<◌, ◌≤◌}
use native.Mathlib.Nat.{zero-add, le_trans, lt_of_lt_of_le, le_of_suc-le-suc, not-suc-le-zero}
use native.Mathlib.Omega.{arith}
use borrow.Author.Tests.{leb-true}
use lib.Dec.{leb}
use lib.ListN.{length, get_or}
use Rattle.answers.proofs.Passed.{both_true}
use Rattle.root_table.specs.Guesses.{guess_of, low, close, all_close, Table, Serves, Near}

-- each entry of a list that keeps the rule keeps it, at its own place
kept : (xs : List ℕ) (i k : ℕ) → all_close i xs ≡ true → k < length xs → close (i + k) (get_or xs k 0) ≡ true
kept [] i k t h = absurd (not-suc-le-zero h)
kept (x ∷ xs) i zero t h = let e : i + 0 ≡ i = omega arith in rw e (both_true (close i x) (all_close (i + 1) xs) t).0
kept (x ∷ xs) i (suc k) t h =
    let e : i + suc k ≡ i + 1 + k = omega arith in
    rw e (kept xs (i + 1) k (both_true (close i x) (all_close (i + 1) xs) t).1 (le_of_suc-le-suc h))

near : (i x m : ℕ) → close i x ≡ true → Serves i m → Near m (guess_of x)
near i x m c s =
    let g = guess_of x in
    let both = both_true (leb ((g - 2 ^ 16) * (g - 2 ^ 16)) (low i)) (leb (low (i + 1)) ((g + 2 ^ 16) * (g + 2 ^ 16))) c in
    record {
      above = le_trans (leb-true ((g - 2 ^ 16) * (g - 2 ^ 16)) (low i) both.0) s.from;
      below = lt_of_lt_of_le s.to (leb-true (low (i + 1)) ((g + 2 ^ 16) * (g + 2 ^ 16)) both.1);
    }

pub entry_near : (xs : List ℕ) (i m : ℕ) → Table xs → i < 1024 → Serves i m → Near m (guess_of (get_or xs i 0))
entry_near xs i m t h s = near i (get_or xs i 0) m (rw (zero-add i) at (kept xs 0 i t.rule (omega (arith, t.entries)))) s

-- every entry serves a number, the first of its own
pub all_used_lem : (i : ℕ) → i < 1024 → (2 ^ 52 ≤ low i) × (low i < 2 ^ 54) × Serves i (low i)
all_used_lem i h = (omega arith, omega arith, record { from = omega arith; to = omega arith })
