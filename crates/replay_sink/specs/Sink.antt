-- Where the lines of a replay go: into a text, or beside a log that is checked. Both have the same room, of the text that is held or of the log's bytes at hand.
use Rattle.std.specs.Prelude.{ℕ, ◌≤◌, ◌≡◌, Bool, true, false, ◌⊎◌, List, length, Some, None}
use Rattle.pipes.specs.Window.{Within}
use Rattle.log_lines.specs.declared.Line.{Line}
use Rattle.log_sink.specs.Sink.{Wrote}
use Rattle.log_hold.specs.Reading.{Held}
use Rattle.log_hold.specs.declared.Check.{Check}
use Rattle.log_hold.specs.declared.Verdict.TheVariants as verdict
use Rattle.replay_stream.specs.declared.Answer.{Answer}
use Rattle.replay_stream.specs.declared.Answer.TheVariants.{Says, Silent, Wants, Over}
use Rattle.replay_sink.specs.declared.Sink.{Sink}
use Rattle.replay_sink.specs.declared.Sink.TheVariants.{Writes, Checks}

abbrev pub Fits : Sink → List ℕ → Type 0
Fits (Writes t) room = (length room ≡ 65536) × (t.held ≤ length room)
Fits (Checks c) room = (length room ≡ 65536) × (Within c.log)

abbrev pub FitsAny : Sink → Type 0
FitsAny s = (room : List ℕ) → length room ≡ 65536 → Fits s room

-- nothing was said yet, and the first line of a log is line 1
abbrev pub Fresh : Sink → Type 0
Fresh (Writes t) = t.held ≤ 0
Fresh (Checks c) = (c.line ≡ 1) × (c.verdict ≡ verdict.Going)

-- a line joins the text, or is held against the next line of the log
abbrev pub Heard : Sink → Line → List ℕ → Sink → List ℕ → Type 0
Heard (Writes t) l room (Writes t') room' = Wrote t room l t' room'
Heard (Writes t) l room (Checks c') room' = ⊥
Heard (Checks c) l room (Checks c') room' = Held c (Some l) room c' room'
Heard (Checks c) l room (Writes t') room' = ⊥

-- of an answer: its line, if it is one
abbrev pub HeardOf : Answer → Sink → List ℕ → Sink → List ℕ → Type 0
HeardOf (Says l) s room s' room' = Heard s l room s' room'
HeardOf Silent s room s' room' = (s' ≡ s) × (room' ≡ room)
HeardOf (Wants i) s room s' room' = (s' ≡ s) × (room' ≡ room)
HeardOf Over s room s' room' = (s' ≡ s) × (room' ≡ room)

-- another line is of use: a log that is checked was right so far
abbrev pub Open : Sink → Type 0
Open (Writes t) = Unit {0}
Open (Checks c) = c.verdict ≡ verdict.Going

-- no line comes any more: a log that was right so far must be over
abbrev pub Closed : Check → List ℕ → Check → List ℕ → Type 0
Closed c room c' room' = ((c.verdict ≡ verdict.Going) × (Held c None room c' room')) ⊎ ((c' ≡ c) × (room' ≡ room))

-- the same, where the log of the recording is over; else all stays
abbrev pub ClosedIf : Bool → Check → List ℕ → Check → List ℕ → Type 0
ClosedIf true c room c' room' = Closed c room c' room'
ClosedIf false c room c' room' = (c' ≡ c) × (room' ≡ room)

abbrev pub Finished : Bool → Sink → List ℕ → Sink → List ℕ → Type 0
Finished over (Writes t) room (Writes t') room' = t'.amiss ≡ t.amiss
Finished over (Writes t) room (Checks c') room' = ⊥
Finished over (Checks c) room (Checks c') room' = ClosedIf over c room c' room'
Finished over (Checks c) room (Writes t') room' = ⊥
