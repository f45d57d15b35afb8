-- SPECIFICATION 5: sums run ascending in f64, in one fixed order. Every sum of the product is `upto`, and every list that is filled is a `table`.
use Rattle.std.specs.Prelude.{ℕ, zero, suc, ◌+◌, Bool, true, List, [], ◌∷◌, ◌++◌, length, slice_index_or, Float}
use Rattle.std.specs.Float.{nan, binary64}
use Rattle.std.specs.Float.Ieee.{add, mul}
use Rattle.std.specs.Float.Ieee.Scale.{finite}
use Rattle.answers.specs.Pick.{both}
use Rattle.floats.specs.Functions.{zero64}

-- Sums t 0 + t 1 + .. + t (n - 1), from +0 on, and rounds each sum before the next term.
unfoldable pub upto : (ℕ → Float) → ℕ → Float
upto t zero = zero64
upto t (suc n) = add binary64 (upto t n) (t n)

-- Lists f 0, .., f (n - 1).
unfoldable pub table : (ℕ → Float) → ℕ → List Float
table f zero = []
table f (suc n) = table f n ++ (f n ∷ [])

-- Lists n times +0.
unfoldable pub zeros : ℕ → List Float
zeros n = table (λ i. zero64) n

-- Gives the value at i of a list that is longer than i.
abbrev pub at : List Float → ℕ → Float
at xs i = slice_index_or xs i nan

abbrev pub square : Float → Float
square x = mul binary64 x x

-- Sums a list.
abbrev pub sum_of : List Float → Float
sum_of xs = upto (at xs) (length xs)

-- Gives the prefix sums of the values and of their squares: one more than the list has values.
unfoldable pub prefix_sums : List Float → List Float
prefix_sums xs = table (upto (at xs)) (length xs + 1)

unfoldable pub prefix_squares : List Float → List Float
prefix_squares xs = table (upto (λ i. square (at xs i))) (length xs + 1)

-- None of the values is a NaN or an infinity.
unfoldable pub all_finite : List Float → Bool
all_finite [] = true
all_finite (x ∷ xs) = both (finite x) (all_finite xs)
