-- Request b: "the first differing line of each sort (header, frame, cycle, refusal, end or `bad`)".
use Rattle.std.specs.Prelude.{ℕ, ◌+◌, ◌≤◌, ◌≡◌, Bool, true, List, [], ◌∷◌, eqb, Option, Some}
use Rattle.answers.specs.Pick.{pick}
use Rattle.log_lines.specs.Lines.{text_of, in_range}
use Rattle.log_lines.specs.declared.Line.{Line}
use Rattle.log_lines.specs.declared.Line.TheVariants.{Replay, Frame, Cycle, Refused, End, BadHeader, BadEvent, BadTotals}
use Rattle.log_text.specs.Text.{same_text}
use Rattle.log_parts.specs.declared.Difference.{Difference}
use Rattle.log_parts.specs.declared.Sort.{Sort}
use Rattle.log_parts.specs.declared.Sort.TheVariants.{Headers, Frames, Cycles, Refusals, Closings}

-- "end or `bad`" is one sort
unfoldable pub sort_of : Line → Sort
sort_of (Replay rate ceiling) = Headers
sort_of (Frame n word) = Frames
sort_of (Cycle n verdict) = Cycles
sort_of (Refused event number) = Refusals
sort_of (End frames cycles) = Closings
sort_of BadHeader = Closings
sort_of (BadEvent event) = Closings
sort_of BadTotals = Closings

-- frames and cycles have numbers of their own
unfoldable pub number_of : Line → ℕ
number_of (Replay rate ceiling) = 0
number_of (Frame n word) = n
number_of (Cycle n verdict) = n
number_of (Refused event number) = 0
number_of (End frames cycles) = 0
number_of BadHeader = 0
number_of (BadEvent event) = 0
number_of BadTotals = 0

abbrev pub rank : Sort → ℕ
rank Headers = 0
rank Frames = 1
rank Cycles = 2
rank Refusals = 3
rank Closings = 4

unfoldable pub is_of : Sort → Line → Bool
is_of s l = eqb (rank s) (rank (sort_of l))

-- the lines of that sort, in their order
unfoldable pub of_sort : Sort → List Line → List Line
of_sort s [] = []
of_sort s (l ∷ ls) = pick (is_of s l) (l ∷ of_sort s ls) (of_sort s ls)

-- two lines are the same if their texts are
unfoldable pub same_line : Line → Line → Bool
same_line l m = same_text (text_of l) (text_of m)

-- the logs differ: the first has this line, the second that one, or nothing
abbrev pub differ : Option Line → Option Line → Option Difference
differ x y = Some (record { first = x; second = y })

-- the numbers rise, from `least` on: none is repeated and none falls
abbrev pub Rising : ℕ → List Line → Type 0
Rising least [] = Unit {0}
Rising least (l ∷ ls) = (least ≤ number_of l) × Rising (number_of l + 1) ls

-- the numbers of each line are such as a log can hold
abbrev pub AllRanged : List Line → Type 0
AllRanged [] = Unit {0}
AllRanged (l ∷ ls) = (in_range l ≡ true) × AllRanged ls
