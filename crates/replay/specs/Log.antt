-- SPECIFICATION 12: the log of a recording, from the bytes of its three inputs.
use Rattle.std.specs.Prelude.{ℕ, zero, suc, ◌+◌, ◌*◌, ◌/◌, List, [], ◌∷◌, ◌++◌, length, Float, Option, Some, None}
use Rattle.recording.specs.declared.Event.{Event}
use Rattle.answers.specs.Pick.{pick}
use Rattle.folds.specs.Sums.{zeros}
use Rattle.scan.specs.Bins.{geometry_of, full_slack, envelope_len, near_len, window_len, prefix_len, lags}
use Rattle.scan.specs.State.{Buffers, new_scan}
use Rattle.scan.specs.declared.Geometry.{Geometry}
use Rattle.tracker.specs.Tracker.{fresh}
use Rattle.log_lines.specs.Lines.{text_of}
use Rattle.log_lines.specs.declared.Line.{Line}
use Rattle.log_lines.specs.declared.Line.TheVariants as line
use Rattle.recording.specs.Recording.{offset_of, opened, event_at}
use Rattle.recording.specs.Samples.{width, samples_in, samples_of, used_up, all_used}
use Rattle.recording.specs.declared.Form.{Form}
use Rattle.recording.specs.declared.Header.{Header}
use Rattle.recording.specs.declared.Used.{Used}
use Rattle.recording.specs.declared.Lengths.{Lengths}
use Rattle.replay.specs.Events.{Play, stepped}
use Rattle.replay.specs.declared.Session.{Session}

-- events as bytes; far and near as the samples that their bytes hold; how many bytes those two have
pub record Inputs : Type 0 where
  pub events : List ℕ
  pub far : List Float
  pub near : List Float
  pub lengths : Lengths

-- ---- the session before the first event: a new scan, a new tracker, nothing numbered and nothing used

unfoldable pub new_session : ℕ → ℕ → Session
new_session rate ceiling = record { scan = new_scan rate ceiling; tracker = fresh rate; frames = 0; cycles = 0; used = used_up 0 0 }

abbrev pub clear_buffers : Geometry → Buffers
clear_buffers g =
    record {
      envelope = zeros (envelope_len full_slack g);
      levels = zeros (near_len g);
      window = zeros (window_len g);
      prefix = zeros (prefix_len g);
      squares = zeros (prefix_len g);
      scores = zeros (lags g);
      lag_sums = zeros (lags g);
    }

-- ---- the samples of an event, from what its input has left

abbrev pub samples_for : Inputs → Used → Option Event → List Float
samples_for i u None = []
samples_for i u (Some event) = samples_of i.far i.near event u.far u.near

-- ---- the lines

-- `bad totals` instead of the end line, if the events use fewer samples than a total
unfoldable pub closing : Header → Session → Line
closing h s = pick (all_used h s.used) (line.End s.frames s.cycles) line.BadTotals

-- event number e is in the 16 bytes from 16 e on behind the header
abbrev pub event_number : Form → List ℕ → ℕ → Option Event
event_number form events e = event_at events (offset_of form + 16 * e)

-- event number e
abbrev pub step_at : Inputs → Header → ℕ → Session → Buffers → Play
step_at i h e s b = stepped h i.lengths e s b (event_number h.form i.events e) (samples_for i s.used (event_number h.form i.events e))

-- `left` events from number e on, and what closes the log
unfoldable pub lines_from : Inputs → Header → ℕ → ℕ → Session → Buffers → List Line
lines_from i h zero e s b = closing h s ∷ []
lines_from i h (suc left) e s b =
    let p = step_at i h e s b in
    p.lines ++ pick p.ends [] (lines_from i h left (e + 1) p.session p.buffers)

abbrev pub all_samples : Form → List ℕ → List Float
all_samples form bytes = samples_in form bytes (length bytes / width form)

abbrev pub inputs : Form → List ℕ → List ℕ → List ℕ → Inputs
inputs form events far near =
    record { events = events; far = all_samples form far; near = all_samples form near; lengths = record { far = length far; near = length near } }

abbrev pub started : List ℕ → List ℕ → List ℕ → Option Header → List Line
started events far near None = line.BadHeader ∷ []
started events far near (Some h) =
    line.Replay h.rate h.ceiling
    ∷ lines_from (inputs h.form events far near) h h.events 0 (new_session h.rate h.ceiling) (clear_buffers (geometry_of h.rate h.ceiling))

-- the log of a recording
unfoldable pub log_of : List ℕ → List ℕ → List ℕ → List Line
log_of events far near = started events far near (opened events)

-- each line ends in one newline
unfoldable pub log_text : List Line → List ℕ
log_text [] = []
log_text (l ∷ ls) = text_of l ++ 10 ∷ log_text ls
