-- SPECIFICATION 12: what a signed 16-bit sample means, and which f32 patterns such a sample has.
use Rattle.std.specs.Prelude.{ℕ, zero, suc, ◌-◌, ltb, eqb, ℤ, pos, negsuc, Float, Option, Some, None}
use Rattle.std.specs.Float.{binary32}
use Rattle.std.specs.Float.Ieee.{of_int, div, to_bits}
use Rattle.answers.specs.Pick.{pick}

-- Reads 16 bits as a signed number, in two's complement: from 32,768 on it is n - 65,536. (`negsuc k` is -(k + 1).)
unfoldable pub signed : ℕ → ℤ
signed n = pick (ltb n 32768) (pos n) (negsuc (65535 - n))

-- Divides the number by 32,768.
unfoldable pub short_sample : ℕ → Float
short_sample n = div binary32 (of_int binary32 (signed n)) (of_int binary32 (pos 32768))

-- Gives the f32 pattern of that quotient.
unfoldable pub quotient_bits : ℕ → ℕ
quotient_bits n = to_bits binary32 (short_sample n)

-- Looks for a pattern among those of the numbers below `count`.
unfoldable pub short_among : ℕ → ℕ → Option ℕ
short_among zero bits = None
short_among (suc n) bits = pick (eqb (quotient_bits n) bits) (Some n) (short_among n bits)

-- Gives the 16 bits whose quotient has this pattern, if there are any.
unfoldable pub short_of : ℕ → Option ℕ
short_of bits = short_among 65536 bits
