-- A sample, and an event other than a near one, logs at most one line, and leaves the counts of what is used.
use Rattle.std.specs.Prelude.{Some}
use Prim.Native.Nat.{ℕ}
use mathlib.Core.Path.{◌≡◌, refl}
use mathlib.Core.Bool.{false}
use mathlib.Core.List.{List, [], ◌∷◌}
use lib.Ieee.{Float}
use Rattle.scan.specs.State.{Buffers}
use Rattle.scan.specs.Calls.{pushed_near, observed}
use Rattle.scan.specs.declared.Scan.{Scan}
use Rattle.answers.specs.declared.Change.{Change}
use Rattle.answers.specs.declared.Change.TheVariants as change
use Rattle.scan.specs.declared.Taking.{Taking}
use Rattle.scan.specs.declared.Taking.TheVariants as taking
use Rattle.scan.specs.declared.Scoring.{Scoring}
use Rattle.scan.specs.declared.Scoring.TheVariants as scoring
use Rattle.scan.specs.Bins.{full_slack}
use Rattle.scan.specs.Steps.{with_levels}
use Rattle.log_lines.specs.declared.Line.{Line}
use Rattle.recording.specs.declared.Form.{Form}
use Rattle.recording.specs.declared.Used.{Used}
use Rattle.recording.specs.declared.Event.{Event}
use Rattle.recording.specs.declared.Event.TheVariants as event
use Rattle.replay.specs.Words.{change_lines}
use Rattle.replay.specs.Events.{Play, with_scan, after_score, score_played, after_taking, sample_played, near_played, cycle_played, seam_played, event_played}
use Rattle.replay.specs.declared.Session.{Session}
use Rattle.replay_stream.specs.Stream as stream
use Rattle.replay_stream.specs.Stream.{Hand, Says, Silent, Wants, Over, told, need_of, handed}

-- the lines of an answer
abbrev pub said : stream.Answer → List Line
said (Says l) = l ∷ []
said Silent = []
said (Wants i) = []
said Over = []

-- lines that an answer tells
abbrev pub One : List Line → Type 0
One ls = said (told ls) ≡ ls

pub record Plain (p : Play) (u : Used) : Type 0 where
  pub one : One p.lines
  pub keeps : p.session.used ≡ u

-- ---- a sample

score_plain : (e : ℕ) (s : Session) (scan : Scan) (b : Buffers) (a : Scoring) → Plain (after_score e s scan b a) s.used
score_plain e s scan b (scoring.Refused number) = record { one = refl; keeps = refl }
score_plain e s scan b (scoring.Frame f n) = record { one = refl; keeps = refl }

taking_plain : (e : ℕ) (s : Session) (b : Buffers) (a : Taking) → Plain (after_taking e s b a) s.used
unfolding score_played
taking_plain e s b (taking.Refused number) = record { one = refl; keeps = refl }
taking_plain e s b taking.Ignored = record { one = refl; keeps = refl }
taking_plain e s b taking.Dropped = record { one = refl; keeps = refl }
taking_plain e s b taking.Taken = record { one = refl; keeps = refl }
taking_plain e s b taking.Full =
    let o = observed full_slack (record { scan = s.scan; buffers = b }) in
    score_plain e s o.scored.scan o.buffers o.scored.answer

pub sample_plain : (e : ℕ) (s : Session) (b : Buffers) (x : Float) (index : ℕ) → Plain (sample_played e s b x index) s.used
unfolding sample_played
sample_plain e s b x index =
    let p = pushed_near s.scan b.levels x index in
    taking_plain e (with_scan s p.took.scan) (with_levels b p.levels) p.took.answer

-- ---- an event, played with the samples at hand

change_one : (e : ℕ) (a : Change) → One (change_lines e a)
unfolding change_lines
change_one e (change.Refused number) = refl
change_one e change.Done = refl

module _ (form : Form) (e : ℕ) (s : Session) (b : Buffers) (hand : Hand) where
  pub event_plain : (k : Event) → Plain (event_played e s b k (handed form hand (need_of (Some k)))) s.used
  unfolding event_played near_played cycle_played seam_played
  event_plain (event.Far count) = record { one = change_one e _; keeps = refl }
  event_plain (event.Near count first) = record { one = refl; keeps = refl }
  event_plain event.Rearm = record { one = change_one e _; keeps = refl }
  event_plain event.DiscardNear = record { one = change_one e _; keeps = refl }
  event_plain event.Unconfident = record { one = refl; keeps = refl }
  event_plain (event.Interior alignment delay) = record { one = refl; keeps = refl }
  event_plain (event.Edge alignment delay) = record { one = refl; keeps = refl }
  event_plain event.Discontinuity = record { one = change_one e _; keeps = refl }

-- only a bad event ends a log
pub event_goes : (e : ℕ) (s : Session) (b : Buffers) (k : Event) (xs : List Float) → (event_played e s b k xs).ends ≡ false
unfolding event_played cycle_played seam_played
event_goes e s b (event.Far count) xs = refl
event_goes e s b (event.Near count first) xs = refl
event_goes e s b event.Rearm xs = refl
event_goes e s b event.DiscardNear xs = refl
event_goes e s b event.Unconfident xs = refl
event_goes e s b (event.Interior alignment delay) xs = refl
event_goes e s b (event.Edge alignment delay) xs = refl
event_goes e s b event.Discontinuity xs = refl
