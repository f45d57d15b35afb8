-- SPECIFICATION 12: what one event does to a session and to the lent buffers, and the lines that it logs.
use Rattle.std.specs.Prelude.{ℕ, Bool, true, false, List, [], ◌∷◌, ◌++◌, Float, Option, Some, None}
use Rattle.answers.specs.Pick.{pick}
use Rattle.answers.specs.Numbers.{next_long_count}
use Rattle.units.specs.Units.{samples}
use Rattle.units.specs.declared.Samples.{Samples}
use Rattle.scan.specs.Bins.{full_slack}
use Rattle.scan.specs.State.{Buffers}
use Rattle.scan.specs.Calls.{pushed_far, pushed_near, observed, rearmed, discarded, FarPush, Clearing}
use Rattle.scan.specs.Steps.{with_envelope, with_levels, with_lag_sums}
use Rattle.scan.specs.declared.Scan.{Scan}
use Rattle.scan.specs.declared.Taking.{Taking}
use Rattle.scan.specs.declared.Taking.TheVariants as taking
use Rattle.scan.specs.declared.Scoring.{Scoring}
use Rattle.scan.specs.declared.Scoring.TheVariants as scoring
use Rattle.tracker.specs.Tracker.{seamed}
use Rattle.tracker.specs.Cycle.{cycled}
use Rattle.tracker.specs.declared.Tracker.{Tracker}
use Rattle.tracker.specs.declared.Outcome.{Outcome}
use Rattle.tracker.specs.declared.Outcome.TheVariants as outcome
use Rattle.log_lines.specs.declared.Line.{Line}
use Rattle.log_lines.specs.declared.Line.TheVariants as line
use Rattle.recording.specs.Samples.{admitted}
use Rattle.recording.specs.declared.Header.{Header}
use Rattle.recording.specs.declared.Lengths.{Lengths}
use Rattle.recording.specs.declared.Used.{Used}
use Rattle.recording.specs.declared.Event.{Event}
use Rattle.recording.specs.declared.Event.TheVariants as event
use Rattle.replay.specs.Words.{word_of, cycle_line, cycles_after, change_lines}
use Rattle.replay.specs.declared.Session.{Session}

-- the lines that were logged, what is left behind, and whether nothing more of this event, or of the log, is to come
pub record Play : Type 0 where
  pub lines : List Line
  pub session : Session
  pub buffers : Buffers
  pub ends : Bool

abbrev pub goes_on : List Line → Session → Buffers → Play
goes_on ls s b = record { lines = ls; session = s; buffers = b; ends = false }

abbrev pub stops : Line → Session → Buffers → Play
stops l s b = record { lines = l ∷ []; session = s; buffers = b; ends = true }

-- ---- a session with one part anew

abbrev pub with_scan : Session → Scan → Session
with_scan s scan = record { scan = scan; tracker = s.tracker; frames = s.frames; cycles = s.cycles; used = s.used }

abbrev pub with_frame : Session → Scan → Session
with_frame s scan = record { scan = scan; tracker = s.tracker; frames = next_long_count s.frames; cycles = s.cycles; used = s.used }

abbrev pub with_tracker : Session → Tracker → ℕ → Session
with_tracker s tracker cycles = record { scan = s.scan; tracker = tracker; frames = s.frames; cycles = cycles; used = s.used }

abbrev pub with_used : Session → Used → Session
with_used s used = record { scan = s.scan; tracker = s.tracker; frames = s.frames; cycles = s.cycles; used = used }

-- ---- 1 far: one push

abbrev pub far_played : ℕ → Session → Buffers → FarPush → Play
far_played e s b p = goes_on (change_lines e p.changed.answer) (with_scan s p.changed.scan) (with_envelope b p.envelope)

-- ---- 2 near: one by one, a full frame scored at once. A refusal drops the rest of the event.

abbrev pub after_score : ℕ → Session → Scan → Buffers → Scoring → Play
after_score e s scan b (scoring.Refused number) = stops (line.Refused e number) (with_scan s scan) b
after_score e s scan b (scoring.Frame f products) = goes_on (line.Frame s.frames (word_of f) ∷ []) (with_frame s scan) b

unfoldable pub score_played : ℕ → Session → Buffers → Play
score_played e s b =
    let o = observed full_slack (record { scan = s.scan; buffers = b }) in
    after_score e s o.scored.scan o.buffers o.scored.answer

abbrev pub after_taking : ℕ → Session → Buffers → Taking → Play
after_taking e s b (taking.Refused number) = stops (line.Refused e number) s b
after_taking e s b taking.Ignored = goes_on [] s b
after_taking e s b taking.Dropped = goes_on [] s b
after_taking e s b taking.Taken = goes_on [] s b
after_taking e s b taking.Full = score_played e s b

unfoldable pub sample_played : ℕ → Session → Buffers → Float → ℕ → Play
sample_played e s b x index =
    let p = pushed_near s.scan b.levels x index in
    after_taking e (with_scan s p.took.scan) (with_levels b p.levels) p.took.answer

-- a later play after an earlier one
abbrev pub continued_by : Play → Play → Play
continued_by earlier p = record { lines = earlier.lines ++ p.lines; session = p.session; buffers = p.buffers; ends = p.ends }

-- Number = first index. An index of 2^62 or more is judged the same whatever it is, so that it may stay at the largest number of 64 bits.
unfoldable pub near_played : ℕ → Session → Buffers → List Float → ℕ → Play
near_played e s b [] index = goes_on [] s b
near_played e s b (x ∷ xs) index =
    let p = sample_played e s b x index in
    pick p.ends p (continued_by p (near_played e p.session p.buffers xs (next_long_count index)))

-- the refusal drops the rest of that event, and the log goes on
abbrev pub log_goes_on : Play → Play
log_goes_on p = goes_on p.lines p.session p.buffers

-- ---- 3 rearm, 4 `discard_near`

abbrev pub clear_played : ℕ → Session → Buffers → Clearing → Play
clear_played e s b p = goes_on (change_lines e p.changed.answer) (with_scan s p.changed.scan) (with_lag_sums b p.lag_sums)

-- ---- 5 unconfident cycle; 6 interior and 7 edge candidate

unfoldable pub cycle_played : ℕ → Session → Buffers → Samples → Outcome → Play
cycle_played e s b alignment outcome =
    let c = cycled s.tracker alignment outcome in
    goes_on (cycle_line e s.cycles c.verdict ∷ []) (with_tracker s c.tracker (cycles_after s.cycles c.verdict)) b

-- ---- 8 discontinuity

unfoldable pub seam_played : ℕ → Session → Buffers → Play
seam_played e s b =
    let c = seamed s.tracker in
    goes_on (change_lines e c.answer) (with_tracker s c.tracker s.cycles) b

-- ---- any event, handed its samples

unfoldable pub event_played : ℕ → Session → Buffers → Event → List Float → Play
event_played e s b (event.Far count) xs = far_played e s b (pushed_far full_slack s.scan b.envelope xs)
event_played e s b (event.Near count first) xs = log_goes_on (near_played e s b xs first)
event_played e s b event.Rearm xs = clear_played e s b (rearmed s.scan b.lag_sums)
event_played e s b event.DiscardNear xs = clear_played e s b (discarded s.scan b.lag_sums)
event_played e s b event.Unconfident xs = cycle_played e s b (samples 0) outcome.Unconfident
event_played e s b (event.Interior alignment delay) xs = cycle_played e s b (samples alignment) (outcome.Candidate (samples delay) true)
event_played e s b (event.Edge alignment delay) xs = cycle_played e s b (samples alignment) (outcome.Candidate (samples delay) false)
event_played e s b event.Discontinuity xs = seam_played e s b

-- `bad event E` ends the log, none of that event done
abbrev pub bad_event : ℕ → Session → Buffers → Play
bad_event e s b = stops (line.BadEvent e) s b

-- an event whose input is short, or which passes a total, is bad; the samples of a refused event count as used
abbrev pub after_admission : ℕ → Session → Buffers → Event → List Float → Option Used → Play
after_admission e s b event xs None = bad_event e s b
after_admission e s b event xs (Some used) = event_played e (with_used s used) b event xs

-- event number e of a recording with this header, whose sample inputs have so many bytes
unfoldable pub stepped : Header → Lengths → ℕ → Session → Buffers → Option Event → List Float → Play
stepped h l e s b None xs = bad_event e s b
stepped h l e s b (Some event) xs = after_admission e s b event xs (admitted h l s.used event)
