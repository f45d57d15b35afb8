-- The calls before the rearm: the far side is made by the accepted far samples alone, and every buffer keeps its length.
use Prim.Native.Nat.{ℕ, ◌+◌}
use mathlib.Core.Path.{◌≡◌, refl, sym, ap, ◌∙◌, subst}
use mathlib.Core.List.{List, [], ◌∷◌, ◌++◌}
use mathlib.Core.Bool.{true}
use native.Mathlib.Omega.{arith}
use lib.Dec.{eqb}
use lib.ListN.{length, length-set}
use lib.Ieee.{Float}
use borrow.Author.Tests.{ne_eqb}
use Rattle.answers.specs.Pick.{pick, pick_true, pick_false, pick_case}
use Rattle.answers.specs.Refusals.{none}
use Rattle.folds.specs.Sums.{all_finite, prefix_sums, prefix_squares}
use Rattle.scan.specs.Bins.{window_len, prefix_len, lags}
use Rattle.scan.specs.State.{World, finished}
use Rattle.scan.specs.Blocks.{Heard, hear_all, Seen, gather, dropped, held_at}
use Rattle.scan.specs.Scoring.{window_of, quiet, flat, scores_of}
use Rattle.scan.specs.Calls.{Observation, FarPush, NearPush, Clearing, frame_of, window_in, is_uncovered, is_ahead, clearing, far_refusal, pushed_far, near_refusal, pushed_near, score_refusal, counted_frame, judged, scored_frame, observed, clear_refusal, rearmed, discarded}
use Rattle.scan.specs.Steps.{Deed, near, score, rearm, discard, reset, ask, Call, far, deed, refusal_of, changes, called}
use Rattle.scan.specs.Streams.{Item, own, foreign, after, heard, brought_by, AllF32, FairDeed, FairCall, Fair, Lengths, lengths_of}
use Rattle.scan.specs.declared.Geometry.{Geometry}
use Rattle.scan.specs.declared.Scan.{Scan}
use Rattle.scan.proofs.Laws.{if_refused_case, both_and, length_table, finite_append}
use Rattle.scan.proofs.Hears.{hear_all_append}
use Rattle.scan.proofs.Masked.{f32_append}
use Rattle.scan.proofs.Sound.{heard_in, Sound}
use Rattle.scan.proofs.Accepted.{far_taken, RightLengths, right_lengths}
use Rattle.scan.proofs.Contracts.{far_step, near_step, score_step, clear_step, reset_unchanged}
use Rattle.scan.proofs.Keeps.{called_sound}

-- from w to v, with these far samples accepted on the way
pub record Passed (slack : ℕ) (w v : World) (xs : List Float) : Type 0 where
  pub geometry : v.scan.geometry ≡ w.scan.geometry
  pub heard : heard_in v ≡ hear_all slack w.scan.geometry (heard_in w) xs
  pub lengths : lengths_of v.buffers ≡ lengths_of w.buffers
  pub samples : AllF32 xs
  pub finite : all_finite xs ≡ true

-- no far samples, and the far side as it was
still : (slack : ℕ) (w v : World) → v.scan.geometry ≡ w.scan.geometry → heard_in v ≡ heard_in w → lengths_of v.buffers ≡ lengths_of w.buffers → Passed slack w v []
unfolding hear_all all_finite
still slack w v g h l = record { geometry = g; heard = h; lengths = l; samples = tt; finite = refl }

then : (slack : ℕ) (w v u : World) (xs ys : List Float) → Passed slack w v xs → Passed slack v u ys → Passed slack w u (xs ++ ys)
then slack w v u xs ys p q =
    record {
      geometry = q.geometry ∙ p.geometry;
      heard =
          q.heard
          ∙ ap (λ (g : Geometry). hear_all slack g (heard_in v) ys) p.geometry
          ∙ ap (λ (h : Heard). hear_all slack w.scan.geometry h ys) p.heard
          ∙ sym (hear_all_append slack w.scan.geometry (heard_in w) xs ys);
      lengths = q.lengths ∙ p.lengths;
      samples = f32_append xs ys p.samples q.samples;
      finite = finite_append xs ys ∙ both_and (all_finite xs) (all_finite ys) p.finite q.finite;
    }

-- ---- every call

length_window : (slack : ℕ) (w : World) → length (window_in slack w) ≡ window_len w.scan.geometry
unfolding window_of
length_window slack w = length_table _ (window_len w.scan.geometry)

gather_length : (g : Geometry) (t : Seen) (x : Float) (index : ℕ) → length (gather g t x index).levels ≡ length t.levels
unfolding gather
gather_length g t x index = pick_case (λ (z : Seen). length z.levels ≡ length t.levels) (eqb (t.near.count + 1) g.decimation) _ _ (λ c. simp length-set) (λ c. refl)

module _ (slack : ℕ) (w : World) (s : Sound slack w) where
  abbrev g : Geometry
  g = w.scan.geometry

  same : Passed slack w w []
  same = still slack w w refl refl refl

  far_passes : (xs : List Float) → AllF32 xs → Passed slack w (called slack w (far xs)).world (brought_by slack w (far xs))
  unfolding called pushed_far
  far_passes xs t =
      if_refused_case (λ (p : FarPush). Passed slack w (far_step w.buffers p).world (pick (eqb (refusal_of (changes p.changed.answer)) none) xs [])) (far_refusal slack w.scan w.buffers.envelope xs) _ _
      (λ r. subst (Passed slack w w) (sym (pick_false (eqb (far_refusal slack w.scan w.buffers.envelope xs) none) xs [] (ne_eqb _ 0 r))) same)
      (λ z. subst (Passed slack w _) (sym (pick_true (eqb none none) xs [] refl)) (record { geometry = refl; heard = refl; lengths = refl; samples = t; finite = (far_taken slack w xs z).finite }))

  near_passes : (x : Float) (index : ℕ) → Passed slack w (called slack w (deed (near x index))).world []
  unfolding called pushed_near
  near_passes x index =
      if_refused_case P (near_refusal w.scan w.buffers.levels x index) _ _ (λ r. same)
      (λ z. pick_case P (finished w.scan.verdict) _ _ (λ f. same)
      (λ f. pick_case P (dropped g (held_at w.scan.near index) index) _ _ (λ d. still slack w _ refl refl refl)
      (λ d. still slack w _ refl refl (ap (λ (n : ℕ). record { levels = n; window = length w.buffers.window; prefix = length w.buffers.prefix; squares = length w.buffers.squares; scores = length w.buffers.scores }) (gather_length g _ x index)))))
    where
      P : NearPush → Type 0
      P p = Passed slack w (near_step w.buffers p).world []

  abbrev Consumes : Observation → Type 0
  Consumes p = Passed slack w (score_step p).world []

  -- where the window alone is written
  windowed : (window : List Float) → length window ≡ length w.buffers.window
      → ◌≡◌ {A = Lengths}
      (record { levels = length w.buffers.levels; window = length window; prefix = length w.buffers.prefix; squares = length w.buffers.squares; scores = length w.buffers.scores })
      (lengths_of w.buffers)
  windowed window e = λ i. record { levels = length w.buffers.levels; window = e i; prefix = length w.buffers.prefix; squares = length w.buffers.squares; scores = length w.buffers.scores }

  counted_passes : RightLengths g w.buffers → (levels window : List Float) → length window ≡ window_len g → Consumes (counted_frame w levels window)
  unfolding counted_frame scores_of prefix_sums prefix_squares
  counted_passes j levels window e =
      let p : length window + 1 ≡ prefix_len g = omega arith in
      let window_length = e ∙ sym j.window in
      let prefix-length = length_table _ (length window + 1) ∙ p ∙ sym j.prefix in
      let squares-length = length_table _ (length window + 1) ∙ p ∙ sym j.squares in
      let scores-length = length_table _ (lags g) ∙ sym j.scores in
      still slack w _ refl refl (λ i. record { levels = length w.buffers.levels; window = window_length i; prefix = prefix-length i; squares = squares-length i; scores = scores-length i })

  judged_passes : RightLengths g w.buffers → (levels window : List Float) → length window ≡ window_len g → Consumes (judged w levels window)
  unfolding judged
  judged_passes j levels window e =
      pick_case Consumes (quiet window) _ _ (λ t. still slack w _ refl refl (windowed window (e ∙ sym j.window))) (λ t. pick_case Consumes (flat levels) _ _ (λ u. still slack w _ refl refl (windowed window (e ∙ sym j.window))) (λ u. counted_passes j levels window e))

  score_passes : Consumes (observed slack w)
  unfolding observed scored_frame
  score_passes =
      if_refused_case Consumes (score_refusal slack w) _ _ (λ r. same)
      (λ z. pick_case Consumes (is_uncovered slack w) _ _ (λ t. still slack w _ refl refl refl)
      (λ t. pick_case Consumes (is_ahead w) _ _ (λ u. still slack w _ refl refl refl) (λ u. judged_passes (right_lengths slack w s.allowed z) (frame_of w) (window_in slack w) (length_window slack w))))

  clear_passes : (cleared : Scan) → cleared.geometry ≡ g → cleared.far ≡ w.scan.far → Passed slack w (clear_step w.buffers (clearing w.scan w.buffers.lag_sums cleared)).world []
  clear_passes cleared e f =
      if_refused_case (λ (p : Clearing). Passed slack w (clear_step w.buffers p).world []) (clear_refusal w.scan w.buffers.lag_sums) _ _ (λ r. same)
      (λ z. still slack w _ e (λ i. record { far = f i; envelope = w.buffers.envelope }) refl)

  deed_passes : (d : Deed) → FairDeed slack w d → Passed slack w (called slack w (deed d)).world []
  deed_passes (near x index) f = near_passes x index
  deed_passes score f = (unfold called in score_passes)
  deed_passes rearm f = (unfold called rearmed in clear_passes _ refl refl)
  deed_passes discard f = (unfold called discarded in clear_passes _ refl refl)
  deed_passes reset f = subst (λ (v : World). Passed slack w v []) (sym (reset_unchanged slack w f)) same
  deed_passes (ask r) f = (unfold called in same)

  pub call_passes : (c : Call) → FairCall slack w c → Passed slack w (called slack w c).world (brought_by slack w c)
  call_passes (far xs) f = far_passes xs f
  call_passes (deed d) f = deed_passes d f

-- ---- a list of calls

pub passes : (slack : ℕ) (items : List Item) (w : World) → Sound slack w → Fair slack w items → Sound slack (after slack w items) × Passed slack w (after slack w items) (heard slack w items)
unfolding after heard
passes slack [] w s f = (s, same slack w s)
passes slack (own c ∷ items) w s f =
    let r = passes slack items (called slack w c).world (called_sound slack w s c f.0) f.1 in
    (r.0, then slack w (called slack w c).world _ (brought_by slack w c) _ (call_passes slack w s c f.0) r.1)
passes slack (foreign v c ∷ items) w s f = passes slack items w s f.1
