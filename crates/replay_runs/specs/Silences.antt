-- Events that say nothing, one after the other: where the loop stands, and what holds behind each of them. What is answered is that of Stream.
use Rattle.std.specs.Prelude.{ℕ, ◌+◌, ◌-◌, ◌^◌, ◌≤◌, ◌<◌, min, ◌≡◌, true, false, List, eqb, Float, length, Some}
use Rattle.std.specs.Float.Ieee.Scale.{finite}
use Rattle.answers.specs.Pick.{both}
use Rattle.scan.specs.Bins.{full_slack, envelope_len, near_len}
use Rattle.scan.specs.State.{Buffers, full, due, first_refusals}
use Rattle.scan.specs.Steps.{with_envelope, with_levels}
use Rattle.scan.specs.declared.Far.{Far}
use Rattle.scan.specs.declared.Near.{Near}
use Rattle.scan.specs.declared.Scan.{Scan}
use Rattle.scan_runs.specs.Ready.{scan_of}
use Rattle.recording.specs.Recording.{event_at}
use Rattle.recording.specs.Samples.{bytes_of, used_up}
use Rattle.recording.specs.declared.Form.{Form}
use Rattle.recording.specs.declared.Header.{Header}
use Rattle.recording.specs.declared.Event.{Event}
use Rattle.replay.specs.declared.Session.{Session}
use Rattle.replay_stream.specs.Stream.{Hand, bytes_used, beyond, Next, midway, silent, on_top, next_line, to_go}
use Rattle.replay_stream.specs.Giving.{hand_of, gives}
use Rattle.replay_stream.specs.declared.Stage.TheVariants.{Events}
use Rattle.replay_stream.specs.declared.Place.{Place}
use Rattle.replay_stream.specs.declared.Bytes.{Bytes}
use Rattle.replay_stream.specs.declared.Ended.{Ended}
use Rattle.replay_stream.specs.declared.Turned.{Turned}
use Rattle.replay_runs.specs.declared.Silence.{Silence}

-- ---- where the loop stands, as a place of the stream: all but the scan's two sides stands still

abbrev pub scan_at : Session → Silence → Scan
scan_at s q = scan_of s.scan.geometry q.far q.near s.scan.verdict

abbrev pub place_at : Session → Silence → Place
place_at s q = record { number = q.number; stage = midway (q.number - 1) q.index q.left; session = record { scan = scan_at s q; tracker = s.tracker; frames = s.frames; cycles = s.cycles; used = q.used } }

-- of the seven buffers only these two are written
abbrev pub lending : Buffers → List Float → List Float → Buffers
lending b envelope levels = with_levels (with_envelope b envelope) levels

-- what a call answers that has come as far as this
abbrev pub answered : Header → Session → Buffers → Hand → Silence → Next
answered h s b hand q = on_top q.bytes (next_line h (place_at s q) b (beyond q.bytes hand))

-- ---- the next event may follow: 1 to 3 refuse nothing, and no full frame waits
pub record Calm (s : Session) (q : Silence) : Type 0 where
  pub none : q.left ≡ 0
  pub judged : first_refusals (scan_at s q) true ≡ 0
  pub unfilled : full s.scan.geometry q.near ≡ false

-- no more bytes are used than are at hand
pub record Inside (ev fr nr : List ℕ) (u : Bytes) : Type 0 where
  pub events : u.events ≤ length ev
  pub far : u.far ≤ length fr
  pub near : u.near ≤ length nr

-- Events are played, or the loop stays where it is.
pub record Forward (h : Header) (n : ℕ) (at : Place) : Type 0 where
  pub least : n ≤ at.number
  pub most : n < at.number → at.number ≤ h.events
  pub still : n ≡ at.number → at.stage ≡ Events

-- ---- one event, or several: what is answered from behind them is what is answered from before them
pub record Follows (h : Header) (s : Session) (events far near : List ℕ) (at : Silence) (e l : List Float) (r : Silence) (e' l' : List Float) : Type 0 where
  pub same : (b : Buffers) (ended : Ended) → answered h s (lending b e l) (hand_of events far near ended) at ≡ answered h s (lending b e' l') (hand_of events far near ended) r
  pub inside : Inside events far near r.bytes
  pub forward : Forward h at.number (place_at s r)
  pub calm : r.going ≡ true → Calm s r
  pub few : r.left ≤ 4096
  pub behind : 0 < r.left → 0 < r.number

-- one event: the loop goes on only behind it
pub record Plays (h : Header) (s : Session) (events far near : List ℕ) (at : Silence) (e l : List Float) (r : Silence) (e' l' : List Float) : Type 0 where
  pub follows : Follows h s events far near at e l r e' l'
  pub onward : r.going ≡ true → at.number < r.number

-- the loop stands before this event
pub record Before (h : Header) (events far near : List ℕ) (at : Silence) (k : Event) : Type 0 where
  pub some : at.number < h.events
  pub entry : event_at events at.bytes.events ≡ Some k
  pub inside : Inside events far near at.bytes

-- the samples of an event are admitted and at hand, and there is room for them
pub record Supplied (form : Form) (used most count at : ℕ) (bytes_used : List ℕ) (samples : List Float) : Type 0 where
  pub total : used + count ≤ most
  pub there : at + bytes_of form count ≤ length bytes_used
  pub few : count ≤ 4096
  pub room : count ≤ length samples

-- ---- what an event leaves

abbrev pub halted : Silence → Silence
halted q = record { number = q.number; index = q.index; left = q.left; far = q.far; near = q.near; used = q.used; bytes = q.bytes; going = false }

abbrev pub heard_on : Silence → Far → ℕ → ℕ → Silence
heard_on q f count size =
    record {
      number = q.number + 1;
      index = 0;
      left = 0;
      far = f;
      near = q.near;
      used = used_up (q.used.far + count) q.used.near;
      bytes = bytes_used (q.bytes.events + 16) (q.bytes.far + size) q.bytes.near;
      going = finite f.sum;
    }

-- so many of its samples passed; the rest of them is left to a turn
abbrev pub took_on : Form → Silence → ℕ → ℕ → Near → ℕ → Silence
took_on form q count first n passed =
    record {
      number = q.number + 1;
      index = min (first + passed) (2 ^ 64 - 1);
      left = count - passed;
      far = q.far;
      near = n;
      used = used_up q.used.far (q.used.near + count);
      bytes = bytes_used (q.bytes.events + 16) q.bytes.far (q.bytes.near + bytes_of form passed);
      going = both (eqb (count - passed) 0) (finite n.sum);
    }

-- ---- where it begins: at an event, in a state that was judged

pub record Starts (p : Place) : Type 0 where
  pub stage : p.stage ≡ Events
  pub judged : first_refusals p.session.scan true ≡ 0
  pub unfilled : full p.session.scan.geometry p.session.scan.near ≡ false

-- the same, with the lent lengths: this is what is tested
pub record MayGo (p : Place) (e l : ℕ) : Type 0 where
  pub starts : Starts p
  pub envelope : e ≡ envelope_len full_slack (due p.session.scan)
  pub levels : l ≡ near_len (due p.session.scan)

abbrev pub before_all : Place → Silence
before_all p =
    record { number = p.number; index = 0; left = 0; far = p.session.scan.far; near = p.session.scan.near; used = p.session.used; bytes = bytes_used 0 0 0; going = true }

-- ---- the events and the turn behind them: the answer, or what is answered from there on
pub record Advances (h : Header) (p : Place) (b : Buffers) (events far near : List ℕ) (ended : Ended) (r : Turned) (b' : Buffers) : Type 0 where
  pub on : silent r.answer ≡ true → next_line h p b (hand_of events far near ended) ≡ on_top r.used (next_line h r.place b' (beyond r.used (hand_of events far near ended)))
  pub over : silent r.answer ≡ false → next_line h p b (hand_of events far near ended) ≡ gives r b'
  pub nearer : silent r.answer ≡ true → to_go h r.place.number r.place.stage < to_go h p.number p.stage
  pub inside : Inside events far near r.used
