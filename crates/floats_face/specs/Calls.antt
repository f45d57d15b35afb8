-- The absolute value on bit patterns, and the square roots of a list.
use Rattle.std.specs.Prelude.{ℕ, ◌%◌, ◌^◌, List, map}
use Rattle.floats.specs.Functions.{root_bits}

-- IEEE 754-2019, 5.5.1, abs: the operand with a sign bit of 0, whatever it is, even a NaN. It reads as the absolute value of what the pattern reads as: see the law
-- `magnitude_reads`.
abbrev pub magnitude_bits : ℕ → ℕ
magnitude_bits b = b % 2 ^ 63

-- Replaces each pattern by that of its root.
abbrev pub roots_of : List ℕ → List ℕ
roots_of list = map root_bits list
