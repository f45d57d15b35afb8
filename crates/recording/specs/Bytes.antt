-- Little-endian numbers.
use Rattle.std.specs.Prelude.{ℕ, zero, suc, ◌+◌, ◌*◌, ◌/◌, ◌%◌, List, [], ◌∷◌, take, drop}

-- Reads the number with these bytes, the least significant first.
abbrev pub number : List ℕ → ℕ
number [] = 0
number (x ∷ rest) = x + 256 * number rest

-- Reads the number in the n bytes from index `at` on.
unfoldable pub number_at : ℕ → List ℕ → ℕ → ℕ
number_at n s at = number (take n (drop at s))

-- Gives the n bytes of a number.
abbrev pub bytes : ℕ → ℕ → List ℕ
bytes zero v = []
bytes (suc n) v = v % 256 ∷ bytes n (v / 256)
