-- One pass over both lists, as code walks them: it holds one line of each, a count and the first difference. By `merges` it gives `differing` and `first_by_number`.
use Rattle.std.specs.Prelude.{ℕ, zero, suc, ◌+◌, List, [], ◌∷◌, ltb, length, Option, Some, None}
use Rattle.answers.specs.Pick.{pick}
use Rattle.log_lines.specs.declared.Line.{Line}
use Rattle.log_parts.specs.Sorts.{number_of, same_line, differ}
use Rattle.log_parts.specs.declared.Difference.{Difference}
use Rattle.log_parts.specs.declared.Tally.{Tally}

-- the first difference stays
abbrev pub or_else : Option Difference → Option Difference → Option Difference
or_else None later = later
or_else (Some d) later = Some d

abbrev pub noted : Tally → Option Line → Option Line → Tally
noted t x y = record { count = t.count + 1; first = or_else t.first (differ x y) }

-- at most so many steps
unfoldable pub merge_in : ℕ → Tally → List Line → List Line → Tally
merge_in zero t a b = t
merge_in (suc f) t [] [] = t
merge_in (suc f) t [] (y ∷ b) = merge_in f (noted t None (Some y)) [] b
merge_in (suc f) t (x ∷ a) [] = merge_in f (noted t (Some x) None) a []
merge_in (suc f) t (x ∷ a) (y ∷ b) =
    pick (ltb (number_of x) (number_of y)) (merge_in f (noted t (Some x) None) a (y ∷ b)) (
    pick (ltb (number_of y) (number_of x)) (merge_in f (noted t None (Some y)) (x ∷ a) b)
    (merge_in f (pick (same_line x y) t (noted t (Some x) (Some y))) a b))

abbrev pub unmarked : Tally
unmarked = record { count = 0; first = None }

-- each step takes a line of one or of both
unfoldable pub merge : List Line → List Line → Tally
merge a b = merge_in (length a + length b) unmarked a b
