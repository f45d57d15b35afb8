-- The contracts between the parts of the code, for functions that are not public.
use Rattle.std.specs.Prelude.{◌≡◌, ℕ, ◌+◌, ◌*◌, ◌/◌, ◌%◌, ◌^◌, ◌≤◌, ◌<◌, Bool, cond, eqb}
use Rattle.std.specs.Float.{binary32, binary64}
use Rattle.std.specs.Float.Ieee.{of_fields, to_bits}
use Rattle.std.specs.Float.Ieee.Nearest.{closest}
use Rattle.root_table.specs.Guesses.{IsRoot}
use Rattle.floats.specs.Functions.{narrow}

-- r is the pattern, without its sign, to which the f64 narrows whose pattern without its sign is `size`.
pub record NarrowedSize (size r : ℕ) : Type 0 where
  pub below : r < 2 ^ 31
  pub is : (s : Bool) → to_bits binary32 (narrow (of_fields binary64 s (size / 2 ^ 52) (size % 2 ^ 52))) ≡ cond s (2 ^ 31) 0 + r

-- r is the whole root of an m with 53 or 54 digits.
pub record Started (m r : ℕ) : Type 0 where
  pub at_least : 2 ^ 52 ≤ m
  pub below : m < 2 ^ 54
  pub is : IsRoot m r

-- Is 0 if a is n, else 1.
abbrev pub sticky : ℕ → ℕ → ℕ
sticky a n = cond (eqb a n) 0 1

-- w is twice the whole root of n, and 1 more if the root is not whole.
pub record Marked (n w : ℕ) : Type 0 where
  pub whole : ℕ
  pub is : IsRoot n whole
  pub marked : w ≡ 2 * whole + sticky (whole * whole) n

-- s is close to the root of s * s + have - want: it is at most one too large.
pub record Close (s have want : ℕ) : Type 0 where
  pub some : 2 ^ 53 ≤ s
  pub small : s ≤ 2 ^ 54
  pub over : have < 2 * s
  pub under : want < 2 * s

-- r is the pattern of the root of m * 2 ^ (e % 2) * 4 ^ 27, e / 2 places up.
pub record RootAt (m e r : ℕ) : Type 0 where
  pub word : ℕ
  pub is : Marked (m * 2 ^ (e % 2) * 2 ^ 54) word
  pub bits : r ≡ e / 2 * 2 ^ 52 + closest word 4

-- m is t, shifted up by z places so that it has 53 digits.
pub record Shifted (t m z : ℕ) : Type 0 where
  pub few : z ≤ 52
  pub at_least : 2 ^ 52 ≤ m
  pub below : m < 2 ^ 53
  pub is : m ≡ t * 2 ^ z
