-- Request b: "the number of differing frames and cycles by number. A frame found in one log only counts as differing." Not as a merge, so that a reader need not run it.
use Rattle.std.specs.Prelude.{ℕ, ◌+◌, ◌≤◌, ◌≡◌, Bool, true, false, not, List, [], ◌∷◌, ◌++◌, eqb, leb, Option, Some, None}
use Rattle.answers.specs.Pick.{pick}
use Rattle.log_lines.specs.declared.Line.{Line}
use Rattle.log_parts.specs.Sorts.{number_of, same_line, differ}
use Rattle.log_parts.specs.declared.Difference.{Difference}

-- ---- what one log has, and where two differ

-- the line of that number, or nothing
unfoldable pub line_at : ℕ → List Line → Option Line
line_at n [] = None
line_at n (l ∷ ls) = pick (eqb (number_of l) n) (Some l) (line_at n ls)

abbrev pub absent : Option Line → Bool
absent None = true
absent (Some l) = false

abbrev pub same_side : Option Line → Option Line → Bool
same_side None None = true
same_side None (Some m) = false
same_side (Some l) None = false
same_side (Some l) (Some m) = same_line l m

-- the two have not the same under that number
unfoldable pub differs_at : List Line → List Line → ℕ → Bool
differs_at a b n = not (same_side (line_at n a) (line_at n b))

-- ---- how many

unfoldable pub count : (Line → Bool) → List Line → ℕ
count test [] = 0
count test (l ∷ ls) = pick (test l) 1 0 + count test ls

-- the lines of the first whose number differs, and those of the second whose number the first has not
unfoldable pub differing : List Line → List Line → ℕ
differing a b = count (λ l. differs_at a b (number_of l)) a + count (λ l. absent (line_at (number_of l) a)) b

-- ---- the first

pub data Found : Type 0 where
  NoNumber : Found
  Number : ℕ → Found

abbrev pub lesser : ℕ → Found → Found
lesser n NoNumber = Number n
lesser n (Number m) = Number (pick (leb n m) n m)

-- the least number of these lines that passes the test
unfoldable pub least_of : (ℕ → Bool) → List Line → Found
least_of test [] = NoNumber
least_of test (l ∷ ls) = pick (test (number_of l)) (lesser (number_of l) (least_of test ls)) (least_of test ls)

unfoldable pub least_differing : List Line → List Line → Found
least_differing a b = least_of (differs_at a b) (a ++ b)

abbrev pub first_at : List Line → List Line → Found → Option Difference
first_at a b NoNumber = None
first_at a b (Number n) = differ (line_at n a) (line_at n b)

-- "the first differing line .. with both texts": that of the least differing number
unfoldable pub first_by_number : List Line → List Line → Option Difference
first_by_number a b = first_at a b (least_differing a b)

-- ---- the least as a statement: it passes, and every number that passes is at least it

abbrev pub PassesTest : (ℕ → Bool) → Found → Type 0
PassesTest test NoNumber = Unit {0}
PassesTest test (Number n) = test n ≡ true

abbrev pub Reaches : ℕ → Found → Type 0
Reaches m NoNumber = ⊥
Reaches m (Number n) = n ≤ m

pub record Least (test : ℕ → Bool) (r : Found) : Type 0 where
  pub passes : PassesTest test r
  pub least : (m : ℕ) → test m ≡ true → Reaches m r
