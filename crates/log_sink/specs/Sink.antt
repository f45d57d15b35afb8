-- The text of a log that is held until there is enough of it to be written, and what a line adds to it.
use Rattle.std.specs.Prelude.{ℕ, ◌+◌, ◌≤◌, ◌/◌, ◌≡◌, Bool, true, false, List, [], ◌∷◌, ◌++◌, length, take}
use Rattle.answers.specs.Pick.{either}
use Rattle.log_lines.specs.Lines.{text_of}
use Rattle.log_lines.specs.declared.Line.{Line}
use Rattle.log_lines.specs.declared.Line.TheVariants.{Replay, Frame, Cycle, Refused, End, BadHeader, BadEvent, BadTotals}
use Rattle.log_sink.specs.declared.Text.{Text}

-- what is held: the front of the room
abbrev pub held : Text → List ℕ → List ℕ
held t room = take t.held room

-- a line as a log has it, with its newline
abbrev pub line_text : Line → List ℕ
line_text l = text_of l ++ 10 ∷ []

-- the line says that something was refused, or bad
abbrev pub complaint : Line → Bool
complaint (Replay rate ceiling) = false
complaint (Frame number word) = false
complaint (Cycle number verdict) = false
complaint (Refused event number) = true
complaint (End frames cycles) = false
complaint BadHeader = true
complaint (BadEvent event) = true
complaint BadTotals = true

-- The line stands behind what was held. Where it found no room the text is no longer good, and 76 bytes are room for any line.
pub record Joined (t : Text) (room : List ℕ) (l : Line) (t' : Text) (room' : List ℕ) : Type 0 where
  pub inside : t'.held ≤ length room'
  pub joins : t'.good ≡ true → held t' room' ≡ held t room ++ line_text l
  pub complains : t'.good ≡ true → t'.amiss ≡ either t.amiss (complaint l)
  pub finds : t.held + 76 ≤ length room → t'.good ≡ t.good

-- A text that fills more than half of its room is written first, so that any line finds room.
pub record Wrote (t : Text) (room : List ℕ) (l : Line) (t' : Text) (room' : List ℕ) : Type 0 where
  pub first : Text
  pub fits : first.held ≤ length room / 2
  pub complains : first.amiss ≡ t.amiss
  pub stays : t.held ≤ length room / 2 → first ≡ t
  pub joined : Joined first room l t' room'
