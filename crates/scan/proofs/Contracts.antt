-- A call, from what the contract of its function says of the result and the lent buffers: what a function hands back is what its contract's right-hand side gives, and that is the
-- step of `called`.
use Prim.Native.Nat.{ℕ}
use mathlib.Core.Path.{◌≡◌, refl, ap}
use mathlib.Core.List.{List}
use lib.Ieee.{Float}
use Rattle.scan.specs.State.{Buffers, World}
use Rattle.scan.specs.Calls.{Observation, FarPush, NearPush, Clearing, Restart, made, reset_refusal, was_reset, pushed_far, pushed_near, observed, rearmed, discarded}
use Rattle.scan.specs.Steps.{Report, Response, reported, near, score, rearm, discard, reset, ask, far, deed, refusal_of, changes, takes, scores, Step, step, with_envelope, with_levels, with_lag_sums, called, making}
use Rattle.answers.specs.Refusals.{none}
use Rattle.scan.specs.Streams.{CallRefused}
use Rattle.scan.proofs.Laws.{if_refused_case}

abbrev pub far_step : Buffers → FarPush → Step
far_step b p = step (changes p.changed.answer) p.changed.scan (with_envelope b p.envelope)

abbrev pub near_step : Buffers → NearPush → Step
near_step b p = step (takes p.took.answer) p.took.scan (with_levels b p.levels)

abbrev pub score_step : Observation → Step
score_step p = step (scores p.scored.answer) p.scored.scan p.buffers

abbrev pub clear_step : Buffers → Clearing → Step
clear_step b p = step (changes p.changed.answer) p.changed.scan (with_lag_sums b p.lag_sums)

abbrev pub reset_step : Buffers → Restart → Step
reset_step b p = step (changes p.changed.answer) p.changed.scan (with_lag_sums (with_envelope b p.envelope) p.lag_sums)

-- a reset that is refused changes nothing
pub reset_unchanged : (slack : ℕ) (w : World) → CallRefused slack w (deed reset) → (called slack w (deed reset)).world ≡ w
unfolding called was_reset
reset_unchanged slack w =
    if_refused_case (λ (p : Restart). (refusal_of (changes p.changed.answer) ≡ none → ⊥) → (reset_step w.buffers p).world ≡ w) (reset_refusal slack w.scan w.buffers.envelope w.buffers.lag_sums) _ _ (λ r f. refl) (λ z f. absurd (f refl))

-- ---- each call, for the result p of its function

module _ (slack : ℕ) (w : World) where
  pub far_called : (xs : List Float) (p : FarPush) → p ≡ pushed_far slack w.scan w.buffers.envelope xs → far_step w.buffers p ≡ called slack w (far xs)
  unfolding called
  far_called xs p e = ap (far_step w.buffers) e

  pub near_called : (x : Float) (index : ℕ) (p : NearPush) → p ≡ pushed_near w.scan w.buffers.levels x index → near_step w.buffers p ≡ called slack w (deed (near x index))
  unfolding called
  near_called x index p e = ap (near_step w.buffers) e

  pub score_called : (p : Observation) → p ≡ observed slack w → score_step p ≡ called slack w (deed score)
  unfolding called
  score_called p e = ap score_step e

  pub rearm_called_lem : (p : Clearing) → p ≡ rearmed w.scan w.buffers.lag_sums → clear_step w.buffers p ≡ called slack w (deed rearm)
  unfolding called
  rearm_called_lem p e = ap (clear_step w.buffers) e

  pub discard_called : (p : Clearing) → p ≡ discarded w.scan w.buffers.lag_sums → clear_step w.buffers p ≡ called slack w (deed discard)
  unfolding called
  discard_called p e = ap (clear_step w.buffers) e

  pub reset_called_lem : (p : Restart) → p ≡ was_reset slack w.scan w.buffers.envelope w.buffers.lag_sums → reset_step w.buffers p ≡ called slack w (deed reset)
  unfolding called
  reset_called_lem p e = ap (reset_step w.buffers) e

  pub report_called_lem : (r : Report) (a : Response) → a ≡ reported w.scan r → step a w.scan w.buffers ≡ called slack w (deed (ask r))
  unfolding called
  report_called_lem r a e = ap (λ (z : Response). step z w.scan w.buffers) e

pub making_called : (slack rate ceiling : ℕ) (lent : Buffers) (p : Restart) → p ≡ made slack rate ceiling lent.envelope lent.lag_sums → reset_step lent p ≡ making slack rate ceiling lent
unfolding making
making_called slack rate ceiling lent p e = ap (reset_step lent) e
