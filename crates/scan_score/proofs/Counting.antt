-- The frames report counts the frames that passed to step 5; a banked peak is the peak of the scores; steps 5 to 8 alone exhaust a scan.
use Prim.Native.Nat.{ℕ}
use mathlib.Core.Path.{◌≡◌, refl, sym, ap, ◌∙◌}
use mathlib.Core.List.{List, [], ◌∷◌}
use mathlib.Core.Bool.{true, false, true≢false}
use lib.Dec.{eqb}
use lib.Ieee.{Float}
use Rattle.answers.specs.Pick.{pick, pick_all, pick_case, pick_true, pick_false}
use Rattle.answers.specs.Refusals.{none}
use Rattle.answers.specs.Numbers.{next_count}
use Rattle.floats.specs.Functions.{narrow}
use Rattle.scan.specs.State.{World, Buffers}
use Rattle.scan.specs.Scoring.{scores_of, products, peak_of, add_scores, averages_of, decision, exhausted_by, verdict_by, Ruling, ruling}
use Rattle.scan.specs.Calls.{Observation, observation, counted_by, frame_of, window_in, score_refusal, scored_frame, judged, counted_frame, observed, pushed_far, pushed_near, NearPush, FarPush, Clearing, Restart, made, was_reset, reset_refusal, clear_refusal, rearmed, discarded}
use Rattle.scan.specs.Steps.{near, score, rearm, discard, reset, ask, Call, far, deed, changes, refusal_of, called, making}
use Rattle.scan.specs.Streams.{Item, own, foreign, after}
use Rattle.scan.specs.declared.Frame.{Frame}
use Rattle.scan.specs.declared.Frame.TheVariants as frame
use Rattle.scan.specs.declared.Scoring.TheVariants as scoring
use Rattle.scan.specs.declared.Geometry.{Geometry}
use Rattle.scan_score.specs.Counting.{is_counted, scored_one, tallied, tally, CountsFrames, FrameCarries, Carries, BanksPeak, ExhaustsByStep8}

-- ---- what holds of a refused frame, of the answers of steps 1 to 4, and of a frame that counts, holds of every observation

-- the answer of a frame that counts and has this peak
abbrev Rules : Frame → Float → Type 0
Rules frame.Uncovered x = ⊥
Rules frame.Ahead x = ⊥
Rules frame.Quiet x = ⊥
Rules frame.Flat x = ⊥
Rules (frame.Banked p) x = p ≡ narrow x
Rules frame.Weak x = Unit {0}
Rules frame.Ceiling x = Unit {0}
Rules frame.Crowded x = Unit {0}
Rules (frame.Region r) x = Unit {0}

decision_rules : (g : Geometry) (averages : List Float) (x : Float) → Rules (decision g averages) x
unfolding decision
decision_rules g averages x =
    let P : Frame → Type 0 = λ f. Rules f x in
    pick_all P _ _ _ tt (pick_all P _ _ _ tt (pick_all P _ _ _ tt tt))

module _ (w : World) (P : Observation → Type 0)
    (refuses : (n : ℕ) → P (record { scored = record { scan = w.scan; answer = scoring.Refused n }; buffers = w.buffers }))
    (skips : (b : Buffers) (f : Frame) → is_counted f ≡ false → P (observation w.scan w.scan.verdict f 0 b))
    (rules : (window scores lag_sums : List Float) (f : Frame) (banked formed : ℕ) → Rules f (peak_of scores)
    → P (counted_by w window scores (record { answer = f; verdict = verdict_by w.scan.verdict (peak_of scores) f banked; lag_sums = lag_sums }) formed)) where
  of_counted : (levels window : List Float) → P (counted_frame w levels window)
  unfolding counted_frame ruling
  of_counted levels window =
      let g = w.scan.geometry in
      let c = scores_of g levels window in
      let t = add_scores g w.buffers.lag_sums c in
      pick_all (λ (r : Ruling). P (counted_by w window c r (products g levels window))) _ _ _
      (rules window c t _ _ _ refl)
      (rules window c _ _ _ _ (decision_rules g (averages_of g t) (peak_of c)))

  of_judged : (levels window : List Float) → P (judged w levels window)
  unfolding judged
  of_judged levels window = pick_all P _ _ _ (skips _ _ refl) (pick_all P _ _ _ (skips _ _ refl) (of_counted levels window))

  of_observed : (slack : ℕ) → P (observed slack w)
  unfolding observed scored_frame
  of_observed slack =
      pick_all P _ _ _
      (pick_all P _ _ _ (skips _ _ refl) (pick_all P _ _ _ (skips _ _ refl) (of_judged (frame_of w) (window_in slack w))))
      (refuses (score_refusal slack w))

-- ---- one frame

rules_count : (f : Frame) (x : Float) → Rules f x → is_counted f ≡ true
rules_count frame.Uncovered x r = absurd r
rules_count frame.Ahead x r = absurd r
rules_count frame.Quiet x r = absurd r
rules_count frame.Flat x r = absurd r
rules_count (frame.Banked p) x r = refl
rules_count frame.Weak x r = refl
rules_count frame.Ceiling x r = refl
rules_count frame.Crowded x r = refl
rules_count (frame.Region q) x r = refl

rules_carry : (f : Frame) (x : Float) → Rules f x → FrameCarries f (narrow x)
rules_carry frame.Uncovered x r = tt
rules_carry frame.Ahead x r = tt
rules_carry frame.Quiet x r = tt
rules_carry frame.Flat x r = tt
rules_carry (frame.Banked p) x r = r
rules_carry frame.Weak x r = tt
rules_carry frame.Ceiling x r = tt
rules_carry frame.Crowded x r = tt
rules_carry (frame.Region q) x r = tt

skips_carry : (f : Frame) (x : Float) → is_counted f ≡ false → FrameCarries f x
skips_carry frame.Uncovered x e = tt
skips_carry frame.Ahead x e = tt
skips_carry frame.Quiet x e = tt
skips_carry frame.Flat x e = tt
skips_carry (frame.Banked p) x e = absurd (true≢false e)
skips_carry frame.Weak x e = tt
skips_carry frame.Ceiling x e = tt
skips_carry frame.Crowded x e = tt
skips_carry (frame.Region q) x e = tt

pub banks_peak : BanksPeak
banks_peak slack w =
    of_observed w (λ (o : Observation). Carries o.scored.answer (narrow (peak_of o.buffers.scores)))
    (λ n. tt)
    (λ b f e. skips_carry f _ e)
    (λ window scores lag_sums f banked formed r. rules_carry f (peak_of scores) r)
    slack

pub exhausts_by_step_8 : ExhaustsByStep8
unfolding pick
exhausts_by_step_8 slack w =
    let before = w.scan.verdict.exhausted in
    of_observed w
    (λ (o : Observation). o.scored.scan.verdict.exhausted
    ≡ pick (scored_one o.scored.answer) (exhausted_by o.scored.scan.verdict.frames o.scored.scan.verdict.found before) before)
    (λ n. refl)
    (λ b f e. sym (pick_false (is_counted f) _ _ e))
    (λ window scores lag_sums f banked formed r. sym (pick_true (is_counted f) _ _ (rules_count f (peak_of scores) r)))
    slack

-- ---- any calls

frames_scored : (slack : ℕ) (w : World)
    → (observed slack w).scored.scan.verdict.frames ≡ pick (scored_one (observed slack w).scored.answer) (next_count w.scan.verdict.frames) w.scan.verdict.frames
unfolding pick
frames_scored slack w =
    let n = w.scan.verdict.frames in
    of_observed w (λ (o : Observation). o.scored.scan.verdict.frames ≡ pick (scored_one o.scored.answer) (next_count n) n)
    (λ m. refl)
    (λ b f e. sym (pick_false (is_counted f) _ _ e))
    (λ window scores lag_sums f banked formed r. sym (pick_true (is_counted f) _ _ (rules_count f (peak_of scores) r)))
    slack

-- a call that clears where it is not refused
restarts : {A : Type 0} (frames : A → ℕ) (refusal : A → ℕ) (before n : ℕ) (refused done : A) → refusal refused ≡ n → frames refused ≡ before → refusal done ≡ 0 → frames done ≡ 0
    → let a = pick (eqb n none) done refused in frames a ≡ pick (eqb (refusal a) none) 0 before
restarts {A} frames refusal before n refused done r f d z =
    pick_case (λ (a : A). frames a ≡ pick (eqb (refusal a) none) 0 before) (eqb n none) done refused
    (λ e. z ∙ sym (pick_true _ _ _ (ap (λ (m : ℕ). eqb m none) d)))
    (λ e. f ∙ sym (pick_false _ _ _ (ap (λ (m : ℕ). eqb m none) r ∙ e)))

one_call : (slack : ℕ) (w : World) (c : Call) → (called slack w c).world.scan.verdict.frames ≡ tallied c (called slack w c).response w.scan.verdict.frames
unfolding called pushed_far pushed_near rearmed discarded was_reset
one_call slack w (far xs) = pick_all (λ (p : FarPush). p.changed.scan.verdict.frames ≡ w.scan.verdict.frames) _ _ _ refl refl
one_call slack w (deed (near x index)) =
    let P : NearPush → Type 0 = λ p. p.took.scan.verdict.frames ≡ w.scan.verdict.frames in
    pick_all P _ _ _ (pick_all P _ _ _ refl (pick_all P _ _ _ refl refl)) refl
one_call slack w (deed score) = frames_scored slack w
one_call slack w (deed rearm) =
    restarts (λ (p : Clearing). p.changed.scan.verdict.frames) (λ (p : Clearing). refusal_of (changes p.changed.answer)) _ (clear_refusal w.scan w.buffers.lag_sums) _ _ refl refl refl refl
one_call slack w (deed discard) = pick_all (λ (p : Clearing). p.changed.scan.verdict.frames ≡ w.scan.verdict.frames) _ _ _ refl refl
one_call slack w (deed reset) =
    restarts (λ (p : Restart). p.changed.scan.verdict.frames) (λ (p : Restart). refusal_of (changes p.changed.answer)) _ (reset_refusal slack w.scan w.buffers.envelope w.buffers.lag_sums) _ _ refl refl refl refl
one_call slack w (deed (ask r)) = refl

all_calls : (slack : ℕ) (w : World) (items : List Item) → (after slack w items).scan.verdict.frames ≡ tally slack w items w.scan.verdict.frames
unfolding after tally
all_calls slack w [] = refl
all_calls slack w (own c ∷ items) = all_calls slack (called slack w c).world items ∙ ap (tally slack (called slack w c).world items) (one_call slack w c)
all_calls slack w (foreign v c ∷ items) = all_calls slack w items

none_yet : (slack rate ceiling : ℕ) (b : Buffers) → (making slack rate ceiling b).world.scan.verdict.frames ≡ 0
unfolding making made
none_yet slack rate ceiling b = pick_all (λ (r : Restart). r.changed.scan.verdict.frames ≡ 0) _ _ _ refl refl

pub counts_frames : CountsFrames
counts_frames slack rate ceiling b items =
    let w = (making slack rate ceiling b).world in
    all_calls slack w items ∙ ap (tally slack w items) (none_yet slack rate ceiling b)
