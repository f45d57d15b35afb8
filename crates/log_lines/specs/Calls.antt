-- What writing and reading a line answer.
use Rattle.std.specs.Prelude.{◌≡◌, ℕ, Bool, true, List, ◌++◌, length, drop, Option, Some, None, nat_le}
use Rattle.answers.specs.Pick.{pick}
use Rattle.log_lines.specs.Lines.{text_of, in_range}
use Rattle.log_lines.specs.declared.Line.{Line}

abbrev pub fits_into : Line → List ℕ → Bool
fits_into line out = nat_le (length (text_of line)) (length out)

-- Answers how many bytes of `out` are written, or that there is no room.
unfoldable pub written : Line → List ℕ → Option ℕ
written line out = pick (fits_into line out) (Some (length (text_of line))) None

-- Gives `out` afterwards: the text is at its start. Without room nothing is written.
unfoldable pub written_out : Line → List ℕ → List ℕ
written_out line out = pick (fits_into line out) (text_of line ++ drop (length (text_of line)) out) out

-- The text is this line's, and a log can hold its numbers.
pub record IsLine (text : List ℕ) (line : Line) : Type 0 where
  pub spelt : text ≡ text_of line
  pub ranged : in_range line ≡ true

-- A text is read as a line exactly if it is that line's. Any other text is not a log line.
pub record Reads (text : List ℕ) (answer : Option Line) : Type 0 where
  pub sound : (line : Line) → answer ≡ Some line → IsLine text line
  pub whole : (line : Line) → IsLine text line → answer ≡ Some line
