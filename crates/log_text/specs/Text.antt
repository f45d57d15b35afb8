-- A log's bytes as its lines. SPECIFICATION 12: each line ends in one newline.
use Rattle.std.specs.Prelude.{ℕ, ◌≡◌, Bool, true, false, List, [], ◌∷◌, ◌++◌, eqb}
use Rattle.answers.specs.Pick.{pick, both}

-- ---- texts

abbrev pub newline : ℕ
newline = 10

abbrev pub empty : List ℕ → Bool
empty [] = true
empty (c ∷ t) = false

unfoldable pub same_text : List ℕ → List ℕ → Bool
same_text [] [] = true
same_text [] (d ∷ u) = false
same_text (c ∷ t) [] = false
same_text (c ∷ t) (d ∷ u) = both (eqb c d) (same_text t u)

-- no byte of it is a newline
abbrev pub plain : List ℕ → Bool
plain [] = true
plain (c ∷ t) = pick (eqb c newline) false (plain t)

-- ---- lines

-- the line so far, and the text behind it
unfoldable pub split_into : List ℕ → List ℕ → List (List ℕ)
split_into l [] = pick (empty l) [] (l ∷ [])
split_into l (c ∷ t) = pick (eqb c newline) (l ∷ split_into [] t) (split_into (l ++ c ∷ []) t)

-- cut at each newline; what stands behind the last one is a line if it is not empty
unfoldable pub lines_of : List ℕ → List (List ℕ)
lines_of t = split_into [] t

-- lines with a newline behind each
unfoldable pub joined : List (List ℕ) → List ℕ
joined [] = []
joined (l ∷ ls) = l ++ newline ∷ joined ls

-- no line of them holds a newline
abbrev pub AllPlain : List (List ℕ) → Type 0
AllPlain [] = Unit {0}
AllPlain (l ∷ ls) = (plain l ≡ true) × AllPlain ls

-- no line of them is empty
abbrev pub NoneEmpty : List (List ℕ) → Type 0
NoneEmpty [] = Unit {0}
NoneEmpty (l ∷ ls) = (empty l ≡ false) × NoneEmpty ls
