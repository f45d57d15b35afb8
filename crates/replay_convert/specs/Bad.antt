-- Lines that begin with `bad`.
use Rattle.std.specs.Prelude.{ℕ, Bool, false, List, [], ◌∷◌, eqb, get_or}
use Rattle.answers.specs.Pick.{both, either}
use Rattle.log_lines.specs.Lines.{text_of}
use Rattle.log_lines.specs.declared.Line.{Line}

-- The three letters are 98, 97 and 100.
abbrev pub begins_bad : List ℕ → Bool
begins_bad text = both (eqb (get_or text 0 0) 98) (both (eqb (get_or text 1 0) 97) (eqb (get_or text 2 0) 100))

abbrev pub is_bad : Line → Bool
is_bad l = begins_bad (text_of l)

abbrev pub has_bad : List Line → Bool
has_bad [] = false
has_bad (l ∷ ls) = either (is_bad l) (has_bad ls)
