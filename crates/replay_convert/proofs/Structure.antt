-- A log has a line that begins with `bad` exactly if the recording is not whole: admission does not look at samples, and no event that is admitted logs such a line.
use Rattle.std.specs.Prelude.{Option, Some, None}
use mathlib.Core.Path.{◌≡◌, refl, ap, ◌∙◌}
use mathlib.Core.Bool.{Bool, true, false, not, true≢false}
use mathlib.Core.List.{List, [], ◌∷◌, ◌++◌}
use Prim.Native.Nat.{ℕ, zero, suc, ◌+◌}
use lib.Ieee.{Float}
use Rattle.answers.specs.Pick.{pick, either, pick_false, pick_case}
use Rattle.answers.specs.Numbers.{next_long_count}
use Rattle.answers.specs.declared.Change.{Change}
use Rattle.answers.specs.declared.Change.TheVariants as change
use Rattle.scan.specs.State.{Buffers}
use Rattle.scan.specs.Calls.{pushed_near, observed}
use Rattle.scan.specs.Bins.{full_slack}
use Rattle.scan.specs.Steps.{with_levels}
use Rattle.scan.specs.declared.Scan.{Scan}
use Rattle.scan.specs.declared.Taking.{Taking}
use Rattle.scan.specs.declared.Taking.TheVariants as taking
use Rattle.scan.specs.declared.Scoring.{Scoring}
use Rattle.scan.specs.declared.Scoring.TheVariants as scoring
use Rattle.tracker.specs.declared.Verdict.{Verdict}
use Rattle.tracker.specs.declared.Verdict.TheVariants as verdict
use Rattle.log_lines.specs.Lines.{text_of}
use Rattle.log_lines.specs.declared.Line.{Line}
use Rattle.log_lines.specs.declared.Line.TheVariants as line
use Rattle.recording.specs.Recording.{opened}
use Rattle.recording.specs.Samples.{admitted, all_used}
use Rattle.recording.specs.declared.Header.{Header}
use Rattle.recording.specs.declared.Used.{Used}
use Rattle.recording.specs.declared.Event.{Event}
use Rattle.recording.specs.declared.Event.TheVariants as event
use Rattle.recording_convert.specs.Whole.{Recording, lengths_of, entry_of, used_by, then_whole, whole_from, whole_at, whole_recording}
use Rattle.replay.specs.Words.{change_lines, cycle_line}
use Rattle.replay.specs.Events.{Play, with_scan, with_used, after_score, score_played, after_taking, sample_played, continued_by, near_played, cycle_played, seam_played, event_played, after_admission, stepped}
use Rattle.replay.specs.Log.{Inputs, inputs, samples_for, closing, lines_from, started, log_of, new_session}
use Rattle.replay.specs.declared.Session.{Session}
use Rattle.replay_stream.proofs.Plain.{sample_plain, event_goes}
use Rattle.replay_convert.specs.Bad.{is_bad, has_bad}

-- ---- lines

one_good : (t b c d : Bool) → (b ≡ false → c ≡ d) → either t b ≡ false → either t c ≡ d
unfolding pick
one_good true b c d again e = absurd (true≢false e)
one_good false b c d again e = again e

joined : (xs ys : List Line) → has_bad xs ≡ false → has_bad (xs ++ ys) ≡ has_bad ys
joined [] ys = λ e. refl
joined (l ∷ ls) ys = one_good (is_bad l) (has_bad ls) (has_bad (ls ++ ys)) (has_bad ys) (joined ls ys)

refused_good : (e n : ℕ) → is_bad (line.Refused e n) ≡ false
unfolding text_of pick
refused_good e n = refl

change_good : (e : ℕ) (a : Change) → has_bad (change_lines e a) ≡ false
unfolding change_lines text_of pick
change_good e (change.Refused number) = refl
change_good e change.Done = refl

cycle_good : (e c : ℕ) (v : Verdict) → has_bad (cycle_line e c v ∷ []) ≡ false
unfolding cycle_line text_of pick
cycle_good e c (verdict.Refused number) = refl
cycle_good e c verdict.Hold = refl
cycle_good e c (verdict.Move alignment) = refl
cycle_good e c (verdict.Reacquire trigger) = refl

-- ---- near samples

score_good : (e : ℕ) (s : Session) (scan : Scan) (b : Buffers) (a : Scoring) → has_bad (after_score e s scan b a).lines ≡ false
unfolding text_of pick
score_good e s scan b (scoring.Refused number) = refl
score_good e s scan b (scoring.Frame f n) = refl

taking_good : (e : ℕ) (s : Session) (b : Buffers) (a : Taking) → has_bad (after_taking e s b a).lines ≡ false
unfolding score_played text_of pick
taking_good e s b (taking.Refused number) = refl
taking_good e s b taking.Ignored = refl
taking_good e s b taking.Dropped = refl
taking_good e s b taking.Taken = refl
taking_good e s b taking.Full =
    let o = observed full_slack (record { scan = s.scan; buffers = b }) in
    score_good e s o.scored.scan o.buffers o.scored.answer

abbrev Good : Session → Play → Type 0
Good s p = (has_bad p.lines ≡ false) × (p.session.used ≡ s.used)

sample_good : (e : ℕ) (s : Session) (b : Buffers) (x : Float) (index : ℕ) → Good s (sample_played e s b x index)
unfolding sample_played
sample_good e s b x index =
    let p = pushed_near s.scan b.levels x index in
    (taking_good e (with_scan s p.took.scan) (with_levels b p.levels) p.took.answer, (sample_plain e s b x index).keeps)

near_good : (e : ℕ) (s : Session) (b : Buffers) (xs : List Float) (index : ℕ) → Good s (near_played e s b xs index)
unfolding near_played
near_good e s b [] index = (refl, refl)
near_good e s b (x ∷ xs) index =
    let p = sample_played e s b x index in
    let one = sample_good e s b x index in
    let rest = near_good e p.session p.buffers xs (next_long_count index) in
    pick_case (Good s) p.ends p (continued_by p (near_played e p.session p.buffers xs (next_long_count index)))
    (λ t. one)
    (λ t. (joined p.lines _ one.0 ∙ rest.0, rest.1 ∙ one.1))

-- ---- an admitted event

pub event_good : (e : ℕ) (s : Session) (b : Buffers) (k : Event) (xs : List Float) → Good s (event_played e s b k xs)
unfolding event_played cycle_played seam_played
event_good e s b (event.Far count) xs = (change_good e _, refl)
event_good e s b (event.Near count first) xs = near_good e s b xs first
event_good e s b event.Rearm xs = (change_good e _, refl)
event_good e s b event.DiscardNear xs = (change_good e _, refl)
event_good e s b event.Unconfident xs = (cycle_good e _ _, refl)
event_good e s b (event.Interior alignment delay) xs = (cycle_good e _ _, refl)
event_good e s b (event.Edge alignment delay) xs = (cycle_good e _ _, refl)
event_good e s b event.Discontinuity xs = (change_good e _, refl)

-- ---- all of it

module _ (r : Recording) (h : Header) where
  abbrev i : Inputs
  i = inputs h.form r.events r.far r.near

  abbrev onwards : ℕ → ℕ → Play → List Line
  onwards left e p = p.lines ++ pick p.ends [] (lines_from i h left (e + 1) p.session p.buffers)

  closes : (s : Session) (t : Bool) → has_bad (pick t (line.End s.frames s.cycles) line.BadTotals ∷ []) ≡ not t
  unfolding text_of pick
  closes s true = refl
  closes s false = refl

  -- the events behind number e are given
  module _ (left e : ℕ) (s : Session) (b : Buffers) (again : (s₁ : Session) (b₁ : Buffers) → has_bad (lines_from i h left (e + 1) s₁ b₁) ≡ not (whole_from h r left (e + 1) s₁.used)) where
    admits : (k : Event) (xs : List Float) (a : Option Used) → has_bad (onwards left e (after_admission e s b k xs a)) ≡ not (then_whole a (λ (v : Used). whole_from h r left (e + 1) v))
    unfolding text_of pick
    admits k xs None = refl
    admits k xs (Some v) =
        let p = event_played e (with_used s v) b k xs in
        let good = event_good e (with_used s v) b k xs in
        joined p.lines _ good.0
        ∙ ap has_bad (pick_false p.ends [] _ (event_goes e (with_used s v) b k xs))
        ∙ again p.session p.buffers
        ∙ ap (λ (u : Used). not (whole_from h r left (e + 1) u)) good.1

    entries : (k : Option Event) → has_bad (onwards left e (stepped h i.lengths e s b k (samples_for i s.used k))) ≡ not (then_whole (used_by h r s.used k) (λ (v : Used). whole_from h r left (e + 1) v))
    unfolding stepped text_of pick
    entries None = refl
    entries (Some k) = admits k (samples_for i s.used (Some k)) (admitted h (lengths_of r) s.used k)

  pub bad_from : (left e : ℕ) (s : Session) (b : Buffers) → has_bad (lines_from i h left e s b) ≡ not (whole_from h r left e s.used)
  unfolding lines_from whole_from closing
  bad_from zero e s b = closes s (all_used h s.used)
  bad_from (suc left) e s b = entries left e s b (bad_from left (e + 1)) (entry_of h.form r e)

start_bad : (r : Recording) (o : Option Header) → has_bad (started r.events r.far r.near o) ≡ not (whole_at r o)
unfolding text_of pick new_session
start_bad r None = refl
start_bad r (Some h) = bad_from r h h.events 0 (new_session h.rate h.ceiling) _

-- The log of a recording has a line that begins with `bad` exactly if the recording is not whole.
pub bad_by_structure : (r : Recording) → has_bad (log_of r.events r.far r.near) ≡ not (whole_recording r)
unfolding log_of whole_recording
bad_by_structure r = start_bad r (opened r.events)
