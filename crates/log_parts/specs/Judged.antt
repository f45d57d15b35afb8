-- A log judged line by line, as code does it: the last number of a sort is kept, and no number past 2^64 - 1 is needed.
use Rattle.std.specs.Prelude.{ℕ, ◌+◌, List, leb, Option, Some, None}
use Rattle.answers.specs.Pick.{pick}
use Rattle.log_lines.specs.declared.Line.{Line}
use Rattle.log_lines.specs.declared.Line.TheVariants as line
use Rattle.log_parts.specs.Named.{Named, NotALog, in_front, line_in}
use Rattle.log_parts.specs.declared.Judged.{Judged}

-- the log goes on with this line, and these are the last numbers with it
abbrev pub good : Line → Option ℕ → Option ℕ → Option Judged
good l f c = Some (record { line = l; frames = f; cycles = c })

-- the least number that may come next
unfoldable pub least_after : Option ℕ → ℕ
least_after None = 0
least_after (Some n) = n + 1

unfoldable pub judged_line : Option ℕ → Option ℕ → Line → Option Judged
judged_line f c (line.Replay rate ceiling) = good (line.Replay rate ceiling) f c
judged_line f c (line.Frame n word) = pick (leb (least_after f) n) (good (line.Frame n word) (Some n) c) None
judged_line f c (line.Cycle n verdict) = pick (leb (least_after c) n) (good (line.Cycle n verdict) f (Some n)) None
judged_line f c (line.Refused event number) = good (line.Refused event number) f c
judged_line f c (line.End frames cycles) = good (line.End frames cycles) f c
judged_line f c line.BadHeader = good line.BadHeader f c
judged_line f c (line.BadEvent event) = good (line.BadEvent event) f c
judged_line f c line.BadTotals = good line.BadTotals f c

abbrev pub judged_read : Option ℕ → Option ℕ → Option Line → Option Judged
judged_read f c (Some l) = judged_line f c l
judged_read f c None = None

unfoldable pub judged_text : Option ℕ → Option ℕ → List ℕ → Option Judged
judged_text f c t = judged_read f c (line_in t)

-- how a log goes on behind a text that was judged
unfoldable pub goes_as : ℕ → List ℕ → Option Judged → (ℕ → ℕ → Named) → Named
goes_as place t (Some g) behind = in_front g.line (behind (least_after g.frames) (least_after g.cycles))
goes_as place t None behind = NotALog place t
