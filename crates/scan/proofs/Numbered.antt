-- What a call answers carries the number that its list of refusals comes to.
use Prim.Native.Nat.{ℕ}
use mathlib.Core.Path.{◌≡◌, refl, sym, ◌∙◌}
use mathlib.Core.List.{List}
use lib.Ieee.{Float}
use Rattle.answers.specs.Pick.{pick_case}
use Rattle.answers.specs.Refusals.{none, if_refused}
use Rattle.scan.specs.State.{World, finished}
use Rattle.scan.specs.Blocks.{dropped, held_at}
use Rattle.scan.specs.Scoring.{quiet, flat}
use Rattle.scan.specs.Calls.{NearPush, Observation, is_uncovered, is_ahead, far_refusal, pushed_far, near_refusal, pushed_near, score_refusal, counted_frame, judged, scored_frame, observed, clear_refusal, rearmed, discarded, reset_refusal, was_reset}
use Rattle.scan.specs.Steps.{refusal_of, changes, takes, scores}
use Rattle.scan.specs.declared.Taking.{Taking}
use Rattle.scan.proofs.Laws.{if_refused_case}

-- n is the refusal number of what is answered
pub record Numbered {A : Type 0} (number : A → ℕ) (n : ℕ) (x : A) : Type 0 where
  pub is : number x ≡ n

-- a call answers its refusal number, or something that is no refusal
numbered : {A : Type 0} (number : A → ℕ) (n : ℕ) (x y : A) → number x ≡ n → number y ≡ none → Numbered number n (if_refused n x y)
numbered number n x y e h = if_refused_case (Numbered number n) n x y (λ r. record { is = e }) (λ z. record { is = h ∙ sym z })

module _ (slack : ℕ) (w : World) where
  pub far_number : (xs : List Float) → Numbered (λ p. refusal_of (changes p.changed.answer)) (far_refusal slack w.scan w.buffers.envelope xs) (pushed_far slack w.scan w.buffers.envelope xs)
  unfolding pushed_far
  far_number xs = numbered _ (far_refusal slack w.scan w.buffers.envelope xs) _ _ refl refl

  pub near_number : (x : Float) (index : ℕ) → Numbered (λ p. refusal_of (takes p.took.answer)) (near_refusal w.scan w.buffers.levels x index) (pushed_near w.scan w.buffers.levels x index)
  unfolding pushed_near
  near_number x index =
      numbered _ (near_refusal w.scan w.buffers.levels x index) _ _ refl
      (pick_case P (finished w.scan.verdict) _ _ (λ f. record { is = refl })
      (λ f. pick_case P (dropped w.scan.geometry (held_at w.scan.near index) index) _ _ (λ d. record { is = refl }) (λ d. record { is = pick_case (λ (a : Taking). refusal_of (takes a) ≡ none) _ _ _ (λ t. refl) (λ t. refl) }))).is
    where
      P : NearPush → Type 0
      P = Numbered (λ p. refusal_of (takes p.took.answer)) none

  pub score_number : Numbered (λ p. refusal_of (scores p.scored.answer)) (score_refusal slack w) (observed slack w)
  unfolding observed scored_frame judged counted_frame
  score_number =
      numbered _ (score_refusal slack w) _ _ refl
      (pick_case P (is_uncovered slack w) _ _ (λ t. record { is = refl })
      (λ t. pick_case P (is_ahead w) _ _ (λ t. record { is = refl }) (λ t. pick_case P (quiet _) _ _ (λ t. record { is = refl }) (λ t. pick_case P (flat _) _ _ (λ t. record { is = refl }) (λ t. record { is = refl }))))).is
    where
      P : Observation → Type 0
      P = Numbered (λ p. refusal_of (scores p.scored.answer)) none

  pub rearm_number : Numbered (λ p. refusal_of (changes p.changed.answer)) (clear_refusal w.scan w.buffers.lag_sums) (rearmed w.scan w.buffers.lag_sums)
  unfolding rearmed
  rearm_number = numbered _ (clear_refusal w.scan w.buffers.lag_sums) _ _ refl refl

  pub discard_number : Numbered (λ p. refusal_of (changes p.changed.answer)) (clear_refusal w.scan w.buffers.lag_sums) (discarded w.scan w.buffers.lag_sums)
  unfolding discarded
  discard_number = numbered _ (clear_refusal w.scan w.buffers.lag_sums) _ _ refl refl

  pub reset_number : Numbered (λ p. refusal_of (changes p.changed.answer)) (reset_refusal slack w.scan w.buffers.envelope w.buffers.lag_sums) (was_reset slack w.scan w.buffers.envelope w.buffers.lag_sums)
  unfolding was_reset
  reset_number = numbered _ (reset_refusal slack w.scan w.buffers.envelope w.buffers.lag_sums) _ _ refl refl
