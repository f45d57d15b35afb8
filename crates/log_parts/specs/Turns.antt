-- One turn of the walk over both lists, by what stands at their fronts. By `merge_turns` the turns are `merge`.
use Rattle.std.specs.Prelude.{ℕ, Bool, false, List, [], ◌∷◌, ltb, Option, Some, None}
use Rattle.answers.specs.Pick.{pick}
use Rattle.log_lines.specs.declared.Line.{Line}
use Rattle.log_parts.specs.Sorts.{number_of, same_line}
use Rattle.log_parts.specs.Merge.{noted, merge_in}
use Rattle.log_parts.specs.declared.Tally.{Tally}
use Rattle.log_parts.specs.declared.Turn.{Turn}
use Rattle.log_parts.specs.declared.Turn.TheVariants.{Over, Alike, First, Second, Both}

-- the lesser number goes first; of equal numbers the texts decide
unfoldable pub turn_of : Option ℕ → Option ℕ → Bool → Turn
turn_of None None same = Over
turn_of None (Some n) same = Second
turn_of (Some m) None same = First
turn_of (Some m) (Some n) same = pick (ltb m n) First (pick (ltb n m) Second (pick same Alike Both))

-- ---- at the fronts of two lists

abbrev pub front_of : List Line → Option ℕ
front_of [] = None
front_of (x ∷ a) = Some (number_of x)

abbrev pub line_of : List Line → Option Line
line_of [] = None
line_of (x ∷ a) = Some x

abbrev pub rest_of : List Line → List Line
rest_of [] = []
rest_of (x ∷ a) = a

abbrev pub same_fronts : List Line → List Line → Bool
same_fronts [] b = false
same_fronts (x ∷ a) [] = false
same_fronts (x ∷ a) (y ∷ b) = same_line x y

-- what a turn leaves to the steps behind it
unfoldable pub after : ℕ → Tally → List Line → List Line → Turn → Tally
after f t a b Over = t
after f t a b Alike = merge_in f t (rest_of a) (rest_of b)
after f t a b First = merge_in f (noted t (line_of a) None) (rest_of a) b
after f t a b Second = merge_in f (noted t None (line_of b)) a (rest_of b)
after f t a b Both = merge_in f (noted t (line_of a) (line_of b)) (rest_of a) (rest_of b)
