-- How the C face gives an answer: by its number, and by its values in a lent list. Both come from what the answer tells (answers: Told).
use Rattle.std.specs.Prelude.{ℕ, suc, zero, ◌+◌, List, [], ◌∷◌, set}

-- A refusal has its own number; a case has its place, counted from 16.
unfoldable pub number : List ℕ → ℕ
number [] = 0
number (zero ∷ []) = 0
number (zero ∷ refusal ∷ rest) = refusal
number (suc place ∷ values) = 16 + place

-- A refusal has no values.
unfoldable pub values_of : List ℕ → List ℕ
values_of [] = []
values_of (zero ∷ rest) = []
values_of (suc place ∷ values) = values

unfoldable pub put_from : ℕ → List ℕ → List ℕ → List ℕ
put_from i vs [] = vs
put_from i vs (x ∷ xs) = put_from (suc i) (set vs i x) xs

-- Gives the lent list after the call: the answer's values come first, and the rest stays as it was.
abbrev pub given : List ℕ → List ℕ → List ℕ
given vs told = put_from 0 vs (values_of told)
