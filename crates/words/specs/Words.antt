-- A host lends a state as a list of 64-bit words. A number is stored as itself, a float as its bit pattern, a flag as 0 or 1.
use Rattle.std.specs.Prelude.{ℕ, ◌^◌, Bool, List, ltb, eqb, get_or, length, Float}
use Rattle.std.specs.Float.{nan, Format}
use Rattle.std.specs.Float.Ieee.{is_nan, nan_bits, to_bits}
use Rattle.answers.specs.Pick.{pick, both}

abbrev pub word : List ℕ → ℕ → ℕ
word ws i = get_or ws i 0

-- Reads a number of 32 bits; a larger one loads as `other`.
unfoldable pub half : ℕ → ℕ → ℕ
half w other = pick (ltb w (2 ^ 32)) w other

-- Tells whether three words are flags (below 2) or numbers of 32 bits (below 2^32).
unfoldable pub all_below : ℕ → ℕ → ℕ → ℕ → Bool
all_below limit first second third = both (ltb first limit) (both (ltb second limit) (ltb third limit))

-- Gives the pattern to store for a float in place of `old`: a NaN keeps `old` if that is a NaN's pattern.
unfoldable pub pattern_of : Format → ℕ → Float → ℕ
pattern_of f old x = pick (is_nan x) (pick (nan_bits f old) old (to_bits f nan)) (to_bits f x)

abbrev pub flag_of : Bool → ℕ
flag_of b = pick b 1 0

-- A report of one number is lent a list of one value.
abbrev pub one_value : ℕ
one_value = 1

-- Tells whether a list has the length of its layout.
abbrev pub fits : ℕ → List ℕ → Bool
fits n ws = eqb (length ws) n
