-- Where a stream stands, what of the log is still ahead of it, and what a lawful answer is: its line, and behind it the rest.
use Prim.Native.Nat.{ℕ, ◌+◌, ◌-◌, ◌*◌, ◌≤◌}
use mathlib.Core.Path.{◌≡◌}
use mathlib.Core.List.{List, [], ◌∷◌, ◌++◌}
use native.Mathlib.Omega.{arith}
use lib.ListN.{length}
use Rattle.scan.specs.State.{Buffers}
use Rattle.log_lines.specs.declared.Line.{Line}
use Rattle.log_lines.specs.declared.Line.TheVariants as line
use Rattle.recording.specs.Recording.{offset_of}
use Rattle.recording.specs.Samples.{bytes_of, samples_in}
use Rattle.recording.specs.declared.Form.{Form}
use Rattle.recording.specs.declared.Header.{Header}
use Rattle.recording.specs.declared.Used.{Used}
use Rattle.replay.specs.Events.{Play, log_goes_on, near_played}
use Rattle.replay.specs.Log.{Inputs, inputs, lines_from}
use Rattle.replay.specs.declared.Session.{Session}
use Rattle.replay_stream.specs.Stream.{Stage, Opening, Events, Midway, Closed, Hand, Bytes, bytes_used, beyond, Answer, Says, Silent, Wants, Over, Next, told}
use Rattle.replay_stream.specs.Hosts.{Rest, rest_after, FairHand}
use Rattle.replay_stream.proofs.Fronts.{Behind, front_past}
use Rattle.replay_stream.proofs.Plain.{said}

-- ---- what of the log is still ahead

-- a play's lines, and those of the events from number n on
abbrev pub followed : Inputs → Header → ℕ → Play → List Line
followed i h n p = p.lines ++ lines_from i h (h.events - n) n p.session p.buffers

-- the samples of a near event that is left midway are the next ones of the near side
abbrev pub ahead : Inputs → Header → List ℕ → ℕ → Stage → Session → Buffers → List Line
ahead i h near n Opening s b = line.Replay h.rate h.ceiling ∷ lines_from i h (h.events - n) n s b
ahead i h near n Events s b = lines_from i h (h.events - n) n s b
ahead i h near n (Midway e index left) s b = followed i h n (log_goes_on (near_played e s b (samples_in h.form near left) index))
ahead i h near n Closed s b = []

-- ---- where the bytes stand

abbrev pub left_of : Stage → ℕ
left_of Opening = 0
left_of Events = 0
left_of (Midway e index left) = left
left_of Closed = 0

-- the samples that a near event has left are counted as used, and their bytes are still there
pub record Stands (form : Form) (events far near : List ℕ) (n : ℕ) (stage : Stage) (u : Used) (r : Rest) : Type 0 where
  pub entries : Behind events (offset_of form + 16 * n) r.events
  pub fars : Behind far (bytes_of form u.far) r.far
  pub passed : ℕ
  pub nears : Behind near passed r.near
  pub partly : passed + bytes_of form (left_of stage) ≡ bytes_of form u.near
  pub there : bytes_of form (left_of stage) ≤ length r.near
  pub few : left_of stage ≤ 4096

-- ---- what was used was at hand

pub record Fits (u : Bytes) (hand : Hand) : Type 0 where
  pub events : u.events ≤ length hand.events.bytes
  pub far : u.far ≤ length hand.far.bytes
  pub near : u.near ≤ length hand.near.bytes

pub fits_none : (hand : Hand) → Fits (bytes_used 0 0 0) hand
fits_none hand = record { events = omega arith; far = omega arith; near = omega arith }

-- so that what is at hand behind it is the front of what is left
pub fair_past : (u : Bytes) (r : Rest) (hand : Hand) → FairHand r hand → Fits u hand → FairHand (rest_after u r) (beyond u hand)
fair_past u r hand fair fits = record {
  events = front_past r.events hand.events fair.events u.events fits.events;
  far = front_past r.far hand.far fair.far u.far fits.far;
  near = front_past r.near hand.near fair.near u.near fits.near;
}

-- ---- a lawful answer

abbrev pub Ends : Answer → List Line → Type 0
Ends (Says l) ls = Unit {0}
Ends Silent ls = Unit {0}
Ends (Wants i) ls = Unit {0}
Ends Over ls = ls ≡ []

pub told_ends : (told-lines ls : List Line) → Ends (told told-lines) ls
told_ends [] ls = tt
told_ends (l ∷ rest) ls = tt

pub record Lawful (events far near : List ℕ) (h : Header) (n : ℕ) (stage : Stage) (s : Session) (b : Buffers) (r : Rest) (hand : Hand) (t : Next) : Type 0 where
  pub tells :
      ahead (inputs h.form events far near) h r.near n stage s b
      ≡ said t.answer ++ ahead (inputs h.form events far near) h (rest_after t.used r).near t.place.number t.place.stage t.place.session t.buffers
  pub stands : Stands h.form events far near t.place.number t.place.stage t.place.session.used (rest_after t.used r)
  pub fits : Fits t.used hand
  pub ends : Ends t.answer (ahead (inputs h.form events far near) h (rest_after t.used r).near t.place.number t.place.stage t.place.session t.buffers)
