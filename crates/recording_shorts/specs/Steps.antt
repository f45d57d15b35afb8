-- The contracts between the parts of the code, for functions that are not public.
use Rattle.std.specs.Prelude.{◌≡◌, ℕ, zero, suc, ◌+◌, ◌-◌, ◌*◌, ◌^◌, ◌<◌, ◌≤◌}
use Rattle.std.specs.Float.Ieee.{size}
use Rattle.recording_shorts.specs.Shorts.{quotient_bits}

-- The pattern, without its sign, of m / 32,768: the exponent's field counts m's digits, and m stands below them, shifted up to 24 digits.
unfoldable pub pattern_of : ℕ → ℕ
pattern_of zero = 0
pattern_of (suc k) = (size (suc k) + 110) * 2 ^ 23 + suc k * 2 ^ (24 - size (suc k))

-- r is the m that has this pattern, if there is one.
unfoldable pub SizeOf : ℕ → ℕ → Type 0
SizeOf pattern r = (m : ℕ) → m ≤ 32768 → pattern_of m ≡ pattern → r ≡ m

-- r is the number whose quotient has these bits, if there is one.
unfoldable pub Guessed : ℕ → ℕ → Type 0
Guessed bits r = (n : ℕ) → n < 65536 → quotient_bits n ≡ bits → r ≡ n
