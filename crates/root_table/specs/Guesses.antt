-- The table of first guesses of the whole root, the rule that it keeps, and the contracts between the parts of the code.
use Rattle.std.specs.Prelude.{ℕ, ◌+◌, ◌-◌, ◌*◌, ◌^◌, ◌≤◌, ◌<◌, Bool, true, ◌≡◌, List, [], ◌∷◌, leb, length}
use Rattle.answers.specs.Pick.{both}

-- r is the whole root of n.
abbrev pub IsRoot : ℕ → ℕ → Type 0
IsRoot n r = (r * r ≤ n) × (n < (r + 1) * (r + 1))

-- ---- the table

-- Entry i serves the numbers from `low i` to below `low (i + 1)`, a 1,024th of those from 2 ^ 52 to 2 ^ 54.
abbrev pub low : ℕ → ℕ
low i = 2 ^ 52 + i * (3 * 2 ^ 42)

-- An entry counts in units of 2 ^ 11.
abbrev pub guess_of : ℕ → ℕ
guess_of x = x * 2 ^ 11

-- The rule of entry i: its guess is within 2 ^ 16 of the root of every number that it serves.
abbrev pub close : ℕ → ℕ → Bool
close i x = both (leb ((guess_of x - 2 ^ 16) * (guess_of x - 2 ^ 16)) (low i)) (leb (low (i + 1)) ((guess_of x + 2 ^ 16) * (guess_of x + 2 ^ 16)))

-- The rule holds at every entry of a list whose first is entry i.
abbrev pub all_close : ℕ → List ℕ → Bool
all_close i [] = true
all_close i (x ∷ xs) = both (close i x) (all_close (i + 1) xs)

-- 1,024 entries keep the rule.
pub record Table (xs : List ℕ) : Type 0 where
  pub entries : length xs ≡ 1024
  pub rule : all_close 0 xs ≡ true

-- ---- a number and its guess

-- Entry i serves m.
pub record Serves (i m : ℕ) : Type 0 where
  pub from : low i ≤ m
  pub to : m < low (i + 1)

-- g is within 2 ^ 16 of the root of m.
pub record Near (m g : ℕ) : Type 0 where
  pub above : (g - 2 ^ 16) * (g - 2 ^ 16) ≤ m
  pub below : m < (g + 2 ^ 16) * (g + 2 ^ 16)
