-- A refused call changes nothing, of the pair and of its buffers, whatever state it was given: "What one channel is .. refused .. must not change the other's answers".
use Prim.Native.Nat.{ℕ}
use mathlib.Core.Path.{◌≡◌, refl, sym, ap, ◌∙◌, subst}
use mathlib.Core.List.{List}
use lib.Ieee.{Float}
use Rattle.answers.specs.Refusals.{none}
use Rattle.scan.specs.Calls.{FarPush, far_refusal, pushed_far}
use Rattle.scan.specs.Steps.{Response, deed, refusal_of, changes, called}
use Rattle.scan.proofs.Laws.{if_refused_case}
use Rattle.scan.proofs.FourFacts.{unchanged}
use Rattle.scan_pair.specs.State.{Side, first, second, Named, channel, unknown, named, PairWorld, common, pair_with_far, seen}
use Rattle.scan_pair.specs.Calls.{PairRestart, pair_reset_refusal, pair_reset, pair_far, pair_near, pair_observed, pair_rearmed, pair_discarded}
use Rattle.scan_pair.specs.Steps.{Own, near, score, rearm, discard, ask, as_deed, PairCall, on, far, reset, settings, pair_step, with_pair_envelope, restart_step, own_called, pair_called}
use Rattle.scan_pair.specs.Streams.{PairRefused}
use Rattle.scan_pair.proofs.Channels.{leaves, by_its_own, unknown_refused}

leaves_same : (w : PairWorld) (d : Side) → leaves w d (seen w d) ≡ w
leaves_same w first = refl
leaves_same w second = refl

-- what a channel's call leaves in the pair is what the scan's call leaves
left_by : (slack : ℕ) (w : PairWorld) (d : Side) (k : Own) → (own_called slack w (channel d) k).world ≡ leaves w d (called slack (seen w d) (deed (as_deed k))).world
left_by slack w d (near x index) = (unfold own_called pair_near called in refl)
left_by slack w d score = (unfold own_called pair_observed called in refl)
left_by slack w d rearm = (unfold own_called pair_rearmed called in refl)
left_by slack w d discard = (unfold own_called pair_discarded called in refl)
left_by slack w d (ask r) = (unfold own_called called in sym (leaves_same w d))

module _ (slack : ℕ) (w : PairWorld) where
  own_unchanged : (n : Named) (k : Own) → (refusal_of (own_called slack w n k).response ≡ none → ⊥) → (own_called slack w n k).world ≡ w
  own_unchanged (channel d) k r =
      left_by slack w d k ∙ ap (leaves w d) (unchanged slack (seen w d) (deed (as_deed k)) (subst (λ (a : Response). refusal_of a ≡ none → ⊥) (by_its_own slack w d k).response r)) ∙ leaves_same w d
  own_unchanged unknown k r = (unknown_refused slack w k).world

  far_unchanged : (xs : List Float) → PairRefused slack w (far xs) → (pair_called slack w (far xs)).world ≡ w
  unfolding pair_called pair_far pushed_far
  far_unchanged xs =
      if_refused_case (λ (q : FarPush). (refusal_of (changes q.changed.answer) ≡ none → ⊥) → (pair_step (changes q.changed.answer) (pair_with_far w.pair q.changed.scan.far) (with_pair_envelope w.buffers q.envelope)).world ≡ w)
      (far_refusal slack (common w.pair) w.buffers.envelope xs) _ _ (λ n r. refl) (λ z r. absurd (r refl))

  reset_unchanged : PairRefused slack w reset → (pair_called slack w reset).world ≡ w
  unfolding pair_called pair_reset
  reset_unchanged =
      if_refused_case (λ (q : PairRestart). (refusal_of (changes q.changed.answer) ≡ none → ⊥) → (restart_step w.buffers q).world ≡ w)
      (pair_reset_refusal slack w.pair w.buffers.envelope w.buffers.first.lag_sums w.buffers.second.lag_sums) _ _ (λ n r. refl) (λ z r. absurd (r refl))

  pub pair_unchanged : (c : PairCall) → PairRefused slack w c → (pair_called slack w c).world ≡ w
  pair_unchanged (on c k) r = (unfold pair_called in own_unchanged (named c) k r)
  pair_unchanged (far xs) r = far_unchanged xs r
  pair_unchanged reset r = reset_unchanged r
  pair_unchanged (settings q) r = (unfold pair_called in refl)
