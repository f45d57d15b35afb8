-- A host that streams a recording. It opens and starts as any host does. Then it calls `next_line` again and again, each time with what the last call left, and hands
-- of each input some of the bytes that were not used yet, from the first one on: as many as it likes, in pieces that it likes. It says that an input has
-- ended only where no byte comes behind those at hand. It keeps the lines, and stops where the log is over.
use Rattle.std.specs.Prelude.{ℕ, ◌+◌, ◌*◌, ◌≤◌, ◌≡◌, true, false, List, [], ◌∷◌, ◌++◌, length, drop, Some, None}
use Rattle.scan.specs.State.{Buffers}
use Rattle.log_lines.specs.declared.Line.{Line}
use Rattle.log_lines.specs.declared.Line.TheVariants as line
use Rattle.recording.specs.Recording.{offset_of, opened, header_length}
use Rattle.recording.specs.Samples.{bytes_of}
use Rattle.recording.specs.declared.Header.{Header}
use Rattle.replay.specs.Beginning.{beginning, beginning_of}
use Rattle.replay.specs.declared.Session.{Session}
use Rattle.replay.specs.declared.Begun.TheVariants as begun
use Rattle.replay_stream.specs.Stream.{Opening, Place, Piece, Hand, Bytes, short, Input, Entries, FarSide, NearSide, Says, Wants, Over, Next, next_line}

-- the bytes of the three inputs that were not used yet
pub record Rest : Type 0 where
  pub events : List ℕ
  pub far : List ℕ
  pub near : List ℕ

abbrev pub rest : List ℕ → List ℕ → List ℕ → Rest
rest e f n = record { events = e; far = f; near = n }

abbrev pub rest_after : Bytes → Rest → Rest
rest_after u r = rest (drop u.events r.events) (drop u.far r.far) (drop u.near r.near)

-- a piece is the front of what is left, and all of it where it is said to be the last
pub record Front (left : List ℕ) (p : Piece) : Type 0 where
  pub later : List ℕ
  pub joins : left ≡ p.bytes ++ later
  pub last : p.ended ≡ true → later ≡ []

-- a host is fair in what it hands
pub record FairHand (r : Rest) (hand : Hand) : Type 0 where
  pub events : Front r.events hand.events
  pub far : Front r.far hand.far
  pub near : Front r.near hand.near

-- a call: what was at hand, and what it gave
pub record NextCall (h : Header) (p : Place) (b : Buffers) (r : Rest) : Type 0 where
  pub hand : Hand
  pub fair : FairHand r hand
  pub gave : Next
  pub contract : gave ≡ next_line h p b hand

-- a line, and the session behind it
pub record Noted : Type 0 where
  pub line : Line
  pub session : Session

abbrev pub noted : Line → Session → Noted
noted l s = record { line = l; session = s }

abbrev pub lines_of : List Noted → List Line
lines_of [] = []
lines_of (t ∷ ts) = t.line ∷ lines_of ts

-- the calls from a place on, and the lines that they gave. Where more is wanted the host calls again, with another hand. (`next_line` never answers Silent: `never_silent`.)
pub data Streamed (h : Header) : Place → Buffers → Rest → List Noted → Type 0 where
  over : (p : Place) (b : Buffers) (r : Rest) (c : NextCall h p b r) → c.gave.answer ≡ Over → Streamed h p b r []
  says : (p : Place) (b : Buffers) (r : Rest) (l : Line) (ts : List Noted) (c : NextCall h p b r) → c.gave.answer ≡ Says l
      → Streamed h c.gave.place c.gave.buffers (rest_after c.gave.used r) ts → Streamed h p b r (noted l c.gave.place.session ∷ ts)
  wants : (p : Place) (b : Buffers) (r : Rest) (i : Input) (ts : List Noted) (c : NextCall h p b r) → c.gave.answer ≡ Wants i
      → Streamed h c.gave.place c.gave.buffers (rest_after c.gave.used r) ts → Streamed h p b r ts

abbrev pub opens : Session → Place
opens s = record { number = 0; stage = Opening; session = s }

-- all of it. The header is read from as many bytes at hand as its first 24 say that it has, or from all where there are fewer.
pub data Streams (events far near : List ℕ) : List Line → Type 0 where
  unopened : (first : Piece) → Front events first → short (header_length first.bytes) first ≡ false → opened first.bytes ≡ None → Streams events far near (line.BadHeader ∷ [])
  streams : (first : Piece) (h : Header) (lent cleared : Buffers) (s : Session) (ts : List Noted) → Front events first → short (header_length first.bytes) first ≡ false
      → opened first.bytes ≡ Some h → beginning (begun.Ready s) cleared ≡ beginning_of h lent
      → Streamed h (opens s) cleared (rest (drop (offset_of h.form) events) far near) ts → Streams events far near (lines_of ts)

-- ---- how much a host needs at hand

-- With this many bytes of an input at hand, or all that are left and word of its end, no single turn wants more of it: an entry, or the samples of the largest event in any form.
abbrev pub plenty : Input → ℕ
plenty Entries = 16
plenty FarSide = 16384
plenty NearSide = 16384

abbrev pub piece_of : Input → Hand → Piece
piece_of Entries hand = hand.events
piece_of FarSide hand = hand.far
piece_of NearSide hand = hand.near

abbrev pub used_of : Input → Bytes → ℕ
used_of Entries u = u.events
used_of FarSide u = u.far
used_of NearSide u = u.near

-- the inputs have every byte that the header announces
pub record Announced (h : Header) (e f n : List ℕ) : Type 0 where
  pub entries : offset_of h.form + 16 * h.events ≤ length e
  pub fars : bytes_of h.form h.far ≤ length f
  pub nears : bytes_of h.form h.near ≤ length n
