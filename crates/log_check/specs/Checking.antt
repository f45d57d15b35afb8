-- A host that checks a log. It opens, starts and calls as any host that streams a recording does. Each line that it is told it holds against the next line of the log, of which it has
-- some bytes at hand, in pieces that it likes; where more of them are wanted it holds more. It stops at the first line that is wrong, or where both are over.
use Rattle.std.specs.Prelude.{ℕ, ◌+◌, ◌≡◌, false, List, [], ◌∷◌, ◌++◌, drop, Some, None}
use Rattle.scan.specs.State.{Buffers}
use Rattle.log_lines.specs.Lines.{text_of}
use Rattle.log_lines.specs.declared.Line.{Line}
use Rattle.log_lines.specs.declared.Line.TheVariants as line
use Rattle.log_text.specs.Text.{lines_of}
use Rattle.log_text.specs.Apart.{Side, Nothing, There, Apart, Same, At, front}
use Rattle.log_hold.specs.Held.{held}
use Rattle.log_hold.specs.declared.Stands.TheVariants.{Right, Wrong, Over}
use Rattle.recording.specs.Recording.{offset_of, opened, header_length}
use Rattle.recording.specs.declared.Header.{Header}
use Rattle.replay.specs.Beginning.{beginning, beginning_of}
use Rattle.replay.specs.declared.Session.{Session}
use Rattle.replay.specs.declared.Begun.TheVariants as begun
use Rattle.replay_stream.specs.Stream.{Piece, short}
use Rattle.replay_stream.specs.Hosts.{Rest, rest, rest_after, Front, NextCall, opens}
use Rattle.replay_stream.specs.declared.Place.{Place}
use Rattle.replay_stream.specs.declared.Input.{Input}
use Rattle.replay_stream.specs.declared.Answer.TheVariants as answer

-- what a wrong line is named as: its number, what stands there, and what should
abbrev pub wrong_at : ℕ → List ℕ → Side → Apart
wrong_at k log should = At k (front (lines_of log)) should

-- against lines that are known: the number of the next one, those that should come, the bytes of the log that were not used yet, and the verdict
pub data Holds : ℕ → List Line → List ℕ → Apart → Type 0 where
  right : (k : ℕ) (l : Line) (ls : List Line) (log : List ℕ) (v : Apart) (n : ℕ) (p : Piece) (f : Front log p) → held (Some l) p.bytes p.ended ≡ Right n
      → Holds (k + 1) ls (drop n p.bytes ++ f.later) v → Holds k (l ∷ ls) log v
  wrong : (k : ℕ) (l : Line) (ls : List Line) (log : List ℕ) (p : Piece) (f : Front log p) → held (Some l) p.bytes p.ended ≡ Wrong → Holds k (l ∷ ls) log (wrong_at k log (There (text_of l)))
  extra : (k : ℕ) (log : List ℕ) (p : Piece) (f : Front log p) → held None p.bytes p.ended ≡ Wrong → Holds k [] log (wrong_at k log Nothing)
  accepted : (k : ℕ) (log : List ℕ) (p : Piece) (f : Front log p) → held None p.bytes p.ended ≡ Over → Holds k [] log Same

-- against the lines that the calls tell
pub data Checking (h : Header) : Place → Buffers → Rest → ℕ → List ℕ → Apart → Type 0 where
  wants : (q : Place) (b : Buffers) (r : Rest) (k : ℕ) (log : List ℕ) (v : Apart) (i : Input) (c : NextCall h q b r) → c.gave.answer ≡ answer.Wants i
      → Checking h c.gave.place c.gave.buffers (rest_after c.gave.used r) k log v → Checking h q b r k log v
  right : (q : Place) (b : Buffers) (r : Rest) (k : ℕ) (l : Line) (log : List ℕ) (v : Apart) (n : ℕ) (c : NextCall h q b r) (p : Piece) (f : Front log p) → c.gave.answer ≡ answer.Says l
      → held (Some l) p.bytes p.ended ≡ Right n
      → Checking h c.gave.place c.gave.buffers (rest_after c.gave.used r) (k + 1) (drop n p.bytes ++ f.later) v → Checking h q b r k log v
  wrong : (q : Place) (b : Buffers) (r : Rest) (k : ℕ) (l : Line) (log : List ℕ) (c : NextCall h q b r) (p : Piece) (f : Front log p) → c.gave.answer ≡ answer.Says l
      → held (Some l) p.bytes p.ended ≡ Wrong → Checking h q b r k log (wrong_at k log (There (text_of l)))
  extra : (q : Place) (b : Buffers) (r : Rest) (k : ℕ) (log : List ℕ) (c : NextCall h q b r) (p : Piece) (f : Front log p) → c.gave.answer ≡ answer.Over
      → held None p.bytes p.ended ≡ Wrong → Checking h q b r k log (wrong_at k log Nothing)
  accepted : (q : Place) (b : Buffers) (r : Rest) (k : ℕ) (log : List ℕ) (c : NextCall h q b r) (p : Piece) (f : Front log p) → c.gave.answer ≡ answer.Over
      → held None p.bytes p.ended ≡ Over → Checking h q b r k log Same

-- all of it: the header is read from as many bytes at hand as its first 24 say that it has, or from all where there are fewer, and the log's lines are numbered from 1
pub data Checks (events far near log : List ℕ) : Apart → Type 0 where
  unopened : (v : Apart) (first : Piece) → Front events first → short (header_length first.bytes) first ≡ false → opened first.bytes ≡ None → Holds 1 (line.BadHeader ∷ []) log v → Checks events far near log v
  checks : (v : Apart) (first : Piece) (h : Header) (lent cleared : Buffers) (s : Session) → Front events first → short (header_length first.bytes) first ≡ false
      → opened first.bytes ≡ Some h → beginning (begun.Ready s) cleared ≡ beginning_of h lent
      → Checking h (opens s) cleared (rest (drop (offset_of h.form) events) far near) 1 log v → Checks events far near log v
