-- A text as its bytes, and a number in decimal.
use Rattle.std.specs.Prelude.{ℕ, zero, suc, ◌+◌, ◌/◌, ◌%◌, List, [] as []ᴸ, ◌∷◌ as ◌∷ᴸ◌, ◌++◌, nat_lt}
use Prim.Native.Char.{code}
use Prim.Native.String.{String, [], ◌∷◌}
use Rattle.answers.specs.Pick.{pick}

-- Gives the bytes of a text of ASCII characters.
abbrev pub ascii : String → List ℕ
ascii [] = []ᴸ
ascii (c ∷ s) = code c ∷ᴸ ascii s

-- Gives the last f of the digits of n, which has no leading zeros.
unfoldable pub digits : ℕ → ℕ → List ℕ
digits zero n = []ᴸ
digits (suc f) n = pick (nat_lt n 10) ((48 + n) ∷ᴸ []ᴸ) (digits f (n / 10) ++ (48 + n % 10) ∷ᴸ []ᴸ)

-- Writes a number in decimal. 20 digits hold any number of 64 bits.
unfoldable pub decimal : ℕ → List ℕ
decimal n = digits 20 n
