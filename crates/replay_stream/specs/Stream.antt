-- A recording replayed from inputs that arrive in pieces: what the bytes at hand give. A turn plays one event, or a near event's samples up to the next line;
-- `next_line` takes turns until there is a line, until more bytes are wanted, or until the log is over. The rules are those of Events and Log: this adds only
-- where the bytes stand. Hosts says what a host may do with it, and the theorem `streamed_log` that it then gets the log. The types of a place and of an answer are those
-- of src/lib.rt.
use Rattle.std.specs.Prelude.{ℕ, zero, suc, ◌+◌, ◌-◌, ◌*◌, ◌≤◌, min, Bool, true, false, not, List, [], ◌∷◌, leb, ltb, length, drop, Float, Option, Some, None}
use Rattle.recording.specs.declared.Event.{Event}
use Rattle.answers.specs.Pick.{pick, both}
use Rattle.answers.specs.Numbers.{next_long_count}
use Rattle.scan.specs.State.{Buffers}
use Rattle.log_lines.specs.declared.Line.{Line}
use Rattle.log_lines.specs.declared.Line.TheVariants as line
use Rattle.recording.specs.Recording.{event_at}
use Rattle.recording.specs.Samples.{bytes_of, samples_in}
use Rattle.recording.specs.declared.Form.{Form}
use Rattle.recording.specs.declared.Header.{Header}
use Rattle.recording.specs.declared.Lengths.{Lengths}
use Rattle.recording.specs.declared.Used.{Used}
use Rattle.recording.specs.declared.Event.TheVariants as event
use Rattle.replay.specs.Events.{Play, sample_played, stepped}
use Rattle.replay.specs.Log.{closing}
use Rattle.replay.specs.declared.Session.{Session}
pub use Rattle.replay_stream.specs.declared.Stage.{Stage}
pub use Rattle.replay_stream.specs.declared.Stage.TheVariants.{Opening, Events, Midway, Closed}
pub use Rattle.replay_stream.specs.declared.Place.{Place}
pub use Rattle.replay_stream.specs.declared.Bytes.{Bytes}
pub use Rattle.replay_stream.specs.declared.Input.{Input}
pub use Rattle.replay_stream.specs.declared.Input.TheVariants.{Entries, FarSide, NearSide}
pub use Rattle.replay_stream.specs.declared.Answer.{Answer}
pub use Rattle.replay_stream.specs.declared.Answer.TheVariants.{Says, Silent, Wants, Over}

-- ---- what is at hand: of each input the next bytes that were not used yet, and whether no byte comes behind them

pub record Piece : Type 0 where
  pub bytes : List ℕ
  pub ended : Bool

pub record Hand : Type 0 where
  pub events : Piece
  pub far : Piece
  pub near : Piece

abbrev pub bytes_used : ℕ → ℕ → ℕ → Bytes
bytes_used e f n = record { events = e; far = f; near = n }

abbrev pub past : ℕ → Piece → Piece
past n p = record { bytes = drop n p.bytes; ended = p.ended }

abbrev pub beyond : Bytes → Hand → Hand
beyond u hand = record { events = past u.events hand.events; far = past u.far hand.far; near = past u.near hand.near }

-- not so many bytes are at hand, and more may come
abbrev pub short : ℕ → Piece → Bool
short n p = both (not p.ended) (ltb (length p.bytes) n)

-- ---- what is answered

pub record Next : Type 0 where
  pub place : Place
  pub buffers : Buffers
  pub answer : Answer
  pub used : Bytes

abbrev pub next : ℕ → Stage → Session → Buffers → Answer → Bytes → Next
next number stage s b answer used = record { place = record { number = number; stage = stage; session = s }; buffers = b; answer = answer; used = used }

-- more of an input is wanted, and nothing was done
abbrev pub waits : ℕ → Stage → Session → Buffers → Input → Next
waits number stage s b input = next number stage s b (Wants input) (bytes_used 0 0 0)

-- a turn has at most one line
abbrev pub told : List Line → Answer
told [] = Silent
told (l ∷ ls) = Says l

-- ---- the samples of a near event: near_played up to the first line

pub record Cut : Type 0 where
  pub lines : List Line
  pub session : Session
  pub buffers : Buffers
  pub index : ℕ
  pub left : List Float

abbrev pub cut : List Line → Session → Buffers → ℕ → List Float → Cut
cut ls s b index left = record { lines = ls; session = s; buffers = b; index = index; left = left }

abbrev pub no_lines : List Line → Bool
no_lines [] = true
no_lines (l ∷ ls) = false

-- a refusal drops the rest of the event
unfoldable pub near_cut : ℕ → Session → Buffers → List Float → ℕ → Cut
near_cut e s b [] index = cut [] s b index []
near_cut e s b (x ∷ xs) index =
    let p = sample_played e s b x index in
    pick p.ends (cut p.lines p.session p.buffers (next_long_count index) [])
    (pick (no_lines p.lines) (near_cut e p.session p.buffers xs (next_long_count index))
    (cut p.lines p.session p.buffers (next_long_count index) xs))

-- the stage while so many samples are left
abbrev pub midway : ℕ → ℕ → ℕ → Stage
midway e index zero = Events
midway e index (suc n) = Midway e index (suc n)

unfoldable pub near_turn : Form → ℕ → ℕ → ℕ → ℕ → Session → Buffers → Hand → Next
near_turn form number e index left s b hand =
    let c = near_cut e s b (samples_in form hand.near.bytes left) index in
    next number (midway e c.index (length c.left)) c.session c.buffers (told c.lines) (bytes_used 0 0 (bytes_of form (left - length c.left)))

-- ---- an event

-- the samples that it asks for
pub data Need : Type 0 where
  NoSamples : Need
  FarSamples : (count : ℕ) → Need
  NearSamples : (count first : ℕ) → Need

-- as no event asks for more
abbrev pub Few : Need → Type 0
Few NoSamples = Unit {0}
Few (FarSamples count) = count ≤ 4096
Few (NearSamples count first) = count ≤ 4096

abbrev pub need_of : Option Event → Need
need_of None = NoSamples
need_of (Some (event.Far count)) = FarSamples count
need_of (Some (event.Near count first)) = NearSamples count first
need_of (Some event.Rearm) = NoSamples
need_of (Some event.DiscardNear) = NoSamples
need_of (Some event.Unconfident) = NoSamples
need_of (Some (event.Interior alignment delay)) = NoSamples
need_of (Some (event.Edge alignment delay)) = NoSamples
need_of (Some event.Discontinuity) = NoSamples

-- its bytes are awaited; not so where it passes the header's total, for then it is bad without them
abbrev pub awaited : Form → ℕ → ℕ → ℕ → Piece → Bool
awaited form used total count p = both (leb (used + count) total) (short (bytes_of form count) p)

abbrev pub awaits : Header → Used → Hand → Need → Bool
awaits h u hand NoSamples = false
awaits h u hand (FarSamples count) = awaited h.form u.far h.far count hand.far
awaits h u hand (NearSamples count first) = awaited h.form u.near h.near count hand.near

abbrev pub side_of : Need → Input
side_of NoSamples = Entries
side_of (FarSamples count) = FarSide
side_of (NearSamples count first) = NearSide

-- the samples that it is played with at once: those of a near event are played behind it, from the stage Midway
abbrev pub handed : Form → Hand → Need → List Float
handed form hand NoSamples = []
handed form hand (FarSamples count) = samples_in form hand.far.bytes count
handed form hand (NearSamples count first) = []

abbrev pub stage_after : ℕ → Need → Stage
stage_after e NoSamples = Events
stage_after e (FarSamples count) = Events
stage_after e (NearSamples count first) = midway e first count

abbrev pub used_for : Form → Need → Bytes
used_for form NoSamples = bytes_used 16 0 0
used_for form (FarSamples count) = bytes_used 16 (bytes_of form count) 0
used_for form (NearSamples count first) = bytes_used 16 0 0

-- how many bytes of the sample inputs have been seen, if all samples so far were used
abbrev pub seen : Form → Used → Hand → Lengths
seen form u hand = record { far = bytes_of form u.far + length hand.far.bytes; near = bytes_of form u.near + length hand.near.bytes }

abbrev pub entered : Form → ℕ → Session → Need → Play → Next
entered form e s need p =
    pick p.ends
    (next e Closed s p.buffers (told p.lines) (bytes_used 0 0 0))
    (next (e + 1) (stage_after e need) p.session p.buffers (told p.lines) (used_for form need))

unfoldable pub entry_turn : Header → ℕ → Session → Buffers → Hand → Option Event → Next
entry_turn h e s b hand k =
    pick (awaits h s.used hand (need_of k))
    (waits e Events s b (side_of (need_of k)))
    (entered h.form e s (need_of k) (stepped h (seen h.form s.used hand) e s b k (handed h.form hand (need_of k))))

-- ---- a turn

-- A near event has no more than 4,096 samples. A place with more of them left, which no stream reaches, waits.
abbrev pub turn_at : Header → ℕ → Stage → Session → Buffers → Hand → Next
turn_at h number Opening s b hand = next number Events s b (Says (line.Replay h.rate h.ceiling)) (bytes_used 0 0 0)
turn_at h number Events s b hand =
    pick (ltb number h.events)
    (pick (short 16 hand.events) (waits number Events s b Entries) (entry_turn h number s b hand (event_at hand.events.bytes 0)))
    (next number Closed s b (Says (closing h s)) (bytes_used 0 0 0))
turn_at h number (Midway e index left) s b hand =
    pick (ltb (min (length hand.near.bytes) (bytes_of h.form 4096)) (bytes_of h.form left))
    (waits number (Midway e index left) s b NearSide)
    (near_turn h.form number e index left s b hand)
turn_at h number Closed s b hand = next number Closed s b Over (bytes_used 0 0 0)

unfoldable pub turn : Header → Place → Buffers → Hand → Next
turn h p b hand = turn_at h p.number p.stage p.session b hand

-- ---- the next line

abbrev pub silent : Answer → Bool
silent (Says l) = false
silent Silent = true
silent (Wants input) = false
silent Over = false

-- a turn behind another
abbrev pub on_top : Bytes → Next → Next
on_top u n =
    record {
      place = n.place;
      buffers = n.buffers;
      answer = n.answer;
      used = bytes_used (u.events + n.used.events) (u.far + n.used.far) (u.near + n.used.near);
    }

-- at most so many turns more than one, while they say nothing
unfoldable pub turns : ℕ → Header → Place → Buffers → Hand → Next
turns zero h p b hand = turn h p b hand
turns (suc more) h p b hand =
    let t = turn h p b hand in
    pick (silent t.answer) (on_top t.used (turns more h t.place t.buffers (beyond t.used hand))) t

-- an event takes at most two turns
unfoldable pub next_line : Header → Place → Buffers → Hand → Next
next_line h p b hand = turns (2 * (h.events - p.number) + 1) h p b hand

-- how many silent turns there can be from here on
abbrev pub to_go : Header → ℕ → Stage → ℕ
to_go h n Opening = 0
to_go h n Events = 2 * (h.events - n)
to_go h n (Midway e index left) = 2 * (h.events - n) + 1
to_go h n Closed = 0
