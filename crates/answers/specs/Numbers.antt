-- SPECIFICATION 2, the numbers the card lives with, and the helpers on numbers that the Rust takes from its library.
use Rattle.std.specs.Prelude.{ℕ, ◌+◌, ◌-◌, ◌^◌, min, Bool, leb}
use Rattle.answers.specs.Pick.{both}

-- index, delay, alignment and origin are below this; of far samples this many are accepted at most
abbrev pub limit : ℕ
limit = 2 ^ 62

-- lo to hi, both counted
abbrev pub within : ℕ → ℕ → ℕ → Bool
within lo hi n = both (leb lo n) (leb n hi)

-- sample rate
abbrev pub allowed_rate : ℕ → Bool
allowed_rate rate = within 8000 192000 rate

-- ceiling, in ms
abbrev pub allowed_ceiling : ℕ → Bool
allowed_ceiling ceiling = within 1 4000 ceiling

-- fine span (`max_delay`)
abbrev pub allowed_span : ℕ → Bool
allowed_span span = within 1 32768 span

-- `abs_diff`: how far a and b are apart. One of the two differences is 0.
abbrev pub apart : ℕ → ℕ → ℕ
apart a b = (a - b) + (b - a)

-- a count of 32 bits, and one of 64, stays at its largest value when reached
abbrev pub next_count : ℕ → ℕ
next_count n = min (n + 1) (2 ^ 32 - 1)

abbrev pub next_long_count : ℕ → ℕ
next_long_count n = min (n + 1) (2 ^ 64 - 1)
