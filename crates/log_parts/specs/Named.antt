-- Request b: "Lines that are not log lines .. are named and the tool stops there; repeated or falling frame or cycle numbers count as such."
use Rattle.std.specs.Prelude.{ℕ, ◌+◌, ◌≡◌, Bool, true, List, [], ◌∷◌, ◌++◌, map, leb, length, Option, Some, None}
use Rattle.answers.specs.Pick.{pick, both}
use Rattle.log_lines.specs.Lines.{text_of, in_range}
use Rattle.log_lines.specs.Steps.{seen_in, guessed}
use Rattle.log_lines.specs.declared.Line.{Line}
use Rattle.log_text.specs.Text.{same_text}
use Rattle.log_parts.specs.Sorts.{is_of, of_sort, number_of, Rising, AllRanged}
use Rattle.log_parts.specs.declared.Sort.{Sort}
use Rattle.log_parts.specs.declared.Sort.TheVariants.{Frames, Cycles}

-- what reading a text answers; by `Line-read` it is the one answer that is `Reads`, the rule of SPECIFICATION 12
unfoldable pub line_in : List ℕ → Option Line
line_in t = pick (both (same_text t (text_of (guessed (seen_in t)))) (in_range (guessed (seen_in t)))) (Some (guessed (seen_in t))) None

-- the lines of a log; or the place of the first text that is none, counted from 1, and that text
pub data Named : Type 0 where
  Lines : List Line → Named
  NotALog : ℕ → List ℕ → Named

-- a line in front of the others
abbrev pub in_front : Line → Named → Named
in_front l (Lines ls) = Lines (l ∷ ls)
in_front l (NotALog k t) = NotALog k t

-- a line of the sort has a number of at least `least`; the next of it must be above that number
unfoldable pub rises : Sort → ℕ → Line → Bool
rises s least l = pick (is_of s l) (leb least (number_of l)) true

unfoldable pub next_least : Sort → ℕ → Line → ℕ
next_least s least l = pick (is_of s l) (number_of l + 1) least

abbrev pub goes_on : ℕ → ℕ → Line → Bool
goes_on frames cycles l = both (rises Frames frames l) (rises Cycles cycles l)

-- one text: what reading it answers, and how the log goes on behind it
unfoldable pub named_as : ℕ → ℕ → ℕ → List ℕ → Option Line → (ℕ → ℕ → Named) → Named
named_as place frames cycles t None behind = NotALog place t
named_as place frames cycles t (Some l) behind =
    pick (goes_on frames cycles l) (in_front l (behind (next_least Frames frames l) (next_least Cycles cycles l))) (NotALog place t)

-- the texts from that place on, where frames and cycles have at least these numbers
unfoldable pub named_from : ℕ → ℕ → ℕ → List (List ℕ) → Named
named_from place frames cycles [] = Lines []
named_from place frames cycles (t ∷ ts) = named_as place frames cycles t (line_in t) (λ f c. named_from (place + 1) f c ts)

unfoldable pub named : List (List ℕ) → Named
named ts = named_from 1 0 0 ts

-- ---- the same as a statement

-- the texts are those of these lines, and the lines are such as stand in a log
pub record GoodFrom (frames cycles : ℕ) (ts : List (List ℕ)) (ls : List Line) : Type 0 where
  pub texts : ts ≡ map text_of ls
  pub ranged : AllRanged ls
  pub frames_rise : Rising frames (of_sort Frames ls)
  pub cycles_rise : Rising cycles (of_sort Cycles ls)

abbrev pub GoodLog : List (List ℕ) → List Line → Type 0
GoodLog ts ls = GoodFrom 0 0 ts ls

-- the text in that place, counted from `from`, is the first that no log goes on with
pub record FirstStrange (frames cycles from : ℕ) (ts : List (List ℕ)) (place : ℕ) (t : List ℕ) : Type 0 where
  pub good : List (List ℕ)
  pub rest : List (List ℕ)
  pub parts : ts ≡ good ++ t ∷ rest
  pub there : place ≡ from + length good
  pub lines : List Line
  pub is_good : GoodFrom frames cycles good lines
  pub no_more : (ls : List Line) → GoodFrom frames cycles (good ++ t ∷ []) ls → ⊥
