-- A stream's own state is never broken: every call keeps what `Sound` says, and that is more than `Healthy`.
use Prim.Native.Nat.{ℕ}
use mathlib.Core.Path.{◌≡◌, refl, sym, ap, ◌∙◌, subst}
use mathlib.Core.List.{List}
use mathlib.Core.Bool.{Bool, true}
use native.Mathlib.Omega.{arith}
use lib.ListN.{length}
use borrow.Author.Tests.{eq-eqb}
use Rattle.answers.specs.Pick.{pick, pick_true, pick_all}
use Rattle.answers.specs.Refusals.{none, wrong_length, not_finite, too_large, frame_waits, no_full_frame}
use Rattle.answers.specs.Answers.{counted, flagged}
use Rattle.floats.proofs.Levels.{AtMost, at_most_finite}
use Rattle.scan.specs.Bins.{lags}
use Rattle.scan.specs.State.{World, due, first_refusals}
use Rattle.scan.specs.Calls.{is_uncovered, is_ahead, window_in, readable, far_refusal, near_refusal, score_refusal, clear_refusal, reset_refusal, report_refusal, bin_samples, ceiling_samples, region_of, beyond_ceiling, is_finished, is_exhausted, frames_of, correlation_of}
use Rattle.scan.specs.Steps
use Rattle.scan.specs.Steps.{Report, bin_samples_report, ceiling_samples_report, region, beyond_ceiling_report, frames, correlation, exhausted, near, score, rearm, discard, reset, ask, Call, far, deed, refusal_of, reported, called}
use Rattle.scan.specs.Streams.{Item, after, Accepted, Fair, Began}
use Rattle.scan.specs.Health.{Healthy, StaysHealthy, NeverBroken, NeverUnreadable, RearmsAlways}
use Rattle.scan.proofs.Laws.{both_and, either_or, all_finite_lem}
use Rattle.scan.proofs.Settings.{allowed}
use Rattle.scan.proofs.Sizes.{Size, size_finite}
use Rattle.scan.proofs.Scores.{score_bits}
use Rattle.scan.proofs.Sound.{Sound, rules_hold, first_refusals_lem}
use Rattle.scan.proofs.Keeps.{window_small}
use Rattle.scan.proofs.Fresh.{fresh_sound, began}
use Rattle.scan.proofs.Numbered.{far_number, near_number, score_number, rearm_number, discard_number, reset_number}
use Rattle.scan.proofs.Earlier.{passes}

pub stays_sound : (slack rate ceiling : ℕ) (w : World) (items : List Item) → Began slack rate ceiling w → Fair slack w items → Sound slack (after slack w items)
stays_sound slack rate ceiling w items b f =
    let o = began slack rate ceiling w b in
    (passes slack items w (subst (Sound slack) (sym o.is) (fresh_sound slack _ w.buffers (allowed rate ceiling o.inside))) f).0

module _ (slack : ℕ) (w : World) (s : Sound slack w) where
  healthy : Healthy w
  healthy =
      record {
        rules = rules_hold slack w s;
        far_sum = at_most_finite w.scan.far.count w.scan.far.sum s.far.heard.sum;
        near_sum = at_most_finite w.scan.near.count w.scan.near.sum s.near.sum;
        far_levels = all_finite_lem (AtMost 1) w.buffers.envelope (at_most_finite 1) s.far.heard.levels;
        near_levels = all_finite_lem (AtMost 1) _ (at_most_finite 1) s.near.levels;
        lag_sums = all_finite_lem (Size w.scan.verdict.banked score_bits) w.buffers.lag_sums (size_finite w.scan.verdict.banked score_bits) s.lag_sums.sizes;
      }

-- ---- refusals 1 and 3

abbrev Fine : ℕ → Type 0
Fine n = (n ≡ 1 → ⊥) × (n ≡ 3 → ⊥)

none_fine : Fine none
none_fine = omega arith

module _ (slack : ℕ) (w : World) (s : Sound slack w) where
  first_fine : (lengths : Bool) → Fine (first_refusals w.scan lengths)
  first_fine lengths = subst Fine (sym (first_refusals_lem slack w s lengths)) (pick_all Fine lengths none wrong_length (omega arith) (omega arith))

  unrefused : report_refusal w.scan ≡ none
  unfolding report_refusal
  unrefused = first_refusals_lem slack w s true ∙ pick_true true none wrong_length refl

  -- a report is lent no buffer, so that nothing is left to refuse
  report_fine : (r : Report) → Fine (refusal_of (reported w.scan r))
  report_fine bin_samples_report = (unfold bin_samples pick in rw unrefused none_fine)
  report_fine ceiling_samples_report = (unfold ceiling_samples pick in rw unrefused none_fine)
  report_fine region = (unfold region_of pick in rw unrefused none_fine)
  report_fine beyond_ceiling_report = (unfold beyond_ceiling flagged pick in rw unrefused none_fine)
  report_fine frames = (unfold frames_of counted pick in rw unrefused none_fine)
  report_fine correlation = (unfold correlation_of pick in rw unrefused none_fine)
  report_fine Steps.finished = (unfold is_finished flagged pick in rw unrefused none_fine)
  report_fine exhausted = (unfold is_exhausted flagged pick in rw unrefused none_fine)

  fine : (c : Call) → Fine (refusal_of (called slack w c).response)
  unfolding called
  fine (far xs) = subst Fine (sym (far_number slack w xs).is) (unfold far_refusal in pick_all Fine _ _ _ (pick_all Fine _ _ too_large (pick_all Fine _ none not_finite (omega arith) (omega arith)) (omega arith)) (first_fine _))
  fine (deed (near x index)) =
      subst Fine (sym (near_number slack w x index).is) (unfold near_refusal in
      pick_all Fine _ _ _
      (pick_all Fine _ none _ (omega arith) (pick_all Fine _ _ frame_waits (pick_all Fine _ _ too_large (pick_all Fine _ none not_finite (omega arith) (omega arith)) (omega arith)) (omega arith)))
      (first_fine _))
  fine (deed score) =
      subst Fine (sym (score_number slack w).is) (unfold score_refusal in pick_all Fine _ _ _ (pick_all Fine _ _ no_full_frame (pick_all Fine _ none not_finite (omega arith) (omega arith)) (omega arith)) (first_fine _))
  fine (deed rearm) = subst Fine (sym (rearm_number slack w).is) (unfold clear_refusal in first_fine _)
  fine (deed discard) = subst Fine (sym (discard_number slack w).is) (unfold clear_refusal in first_fine _)
  fine (deed reset) = subst Fine (sym (reset_number slack w).is) (unfold reset_refusal in first_fine _)
  fine (deed (ask r)) = report_fine r

  -- ---- refusal 4, of a frame

  readable_frame : readable slack w ≡ true
  readable_frame =
      let h = healthy slack w s in
      both_and _ _ h.near_levels (both_and _ _ (all_finite_lem (AtMost 1) (window_in slack w) (at_most_finite 1) (window_small slack w s)) h.lag_sums)

  abbrev Reads : ℕ → Type 0
  Reads n = n ≡ not_finite → ⊥

  reads : Reads (refusal_of (called slack w (deed score)).response)
  unfolding called
  reads =
      subst Reads (sym (score_number slack w).is) (unfold score_refusal in
      pick_all Reads _ _ _
      (pick_all Reads _ _ no_full_frame (subst Reads (sym (pick_true _ none not_finite (either_or (is_uncovered slack w) _ (λ u. either_or (is_ahead w) _ (λ t. readable_frame))))) (omega arith)) (omega arith))
      (subst Reads (sym (first_refusals_lem slack w s _)) (pick_all Reads _ none wrong_length (omega arith) (omega arith))))

  -- ---- the rearm

  rearms : Accepted slack w (deed rearm)
  unfolding called clear_refusal
  rearms =
      (rearm_number slack w).is
      ∙ first_refusals_lem slack w s _
      ∙ pick_true _ none wrong_length (eq-eqb (length w.buffers.lag_sums) (lags (due w.scan)) (s.lag_sums.length ∙ ap lags s.allowed.follows))

-- ---- the statements

pub stays_healthy : StaysHealthy
stays_healthy slack rate ceiling w items b f = healthy slack (after slack w items) (stays_sound slack rate ceiling w items b f)

pub never_broken : NeverBroken
never_broken slack rate ceiling w items b f c = fine slack (after slack w items) (stays_sound slack rate ceiling w items b f) c

pub never_unreadable : NeverUnreadable
never_unreadable slack rate ceiling w items b f = reads slack (after slack w items) (stays_sound slack rate ceiling w items b f)

pub rearms_always : RearmsAlways
rearms_always slack rate ceiling w items b f = rearms slack (after slack w items) (stays_sound slack rate ceiling w items b f)
