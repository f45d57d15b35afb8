-- The lag sums are those of exactly the frames that counted since the last decision, discard or rearm, and the fourth of them is decided on the sums of these four.
use Prim.Native.Nat.{ℕ, ◌+◌}
use mathlib.Core.Path.{◌≡◌, refl, sym, ap, ◌∙◌, subst}
use mathlib.Core.List.{List, [], ◌∷◌, ◌++◌}
use mathlib.Core.Bool.{Bool, true, false, not, false≢true}
use native.Mathlib.Omega.{arith}
use lib.Dec.{ltb, eqb}
use lib.ListN.{length, length-append}
use lib.Ieee.{Float}
use borrow.Author.Tests.{ne_eqb}
use Rattle.answers.specs.Pick.{pick, both, pick_case}
use Rattle.answers.specs.Refusals.{none}
use Rattle.floats.specs.Functions.{narrow}
use Rattle.folds.specs.Sums.{zeros}
use Rattle.scan.specs.Bins.{geometry_of, lags}
use Rattle.scan.specs.State.{World, finished}
use Rattle.scan.specs.Blocks.{dropped, held_at}
use Rattle.scan.specs.Scoring.{quiet, flat, peak_of, add_scores, averages_of, decision, Ruling, ruling}
use Rattle.scan.specs.Calls.{FarPush, NearPush, Observation, Clearing, Restart, far_refusal, pushed_far, near_refusal, pushed_near, frame_of, window_in, is_uncovered, is_ahead, counted_by, score_refusal, counted_frame, judged, scored_frame, observed, clear_refusal, rearmed, discarded, reset_refusal, was_reset}
use Rattle.scan.specs.Steps.{Call, near, score, rearm, discard, reset, ask, far, deed, refusal_of, changes, scores, called}
use Rattle.scan.specs.Streams.{Item, own, foreign, after, Began}
use Rattle.scan.specs.Along.{along}
use Rattle.scan.specs.Banked.{counts, scores_in, products_in, count_on, counted_since, sums_from, sums_of, SumsOfCounted, answer_by, DecidesOnFour}
use Rattle.scan.specs.declared.Frame.{Frame}
use Rattle.scan.specs.declared.Frame.TheVariants as frame
use Rattle.scan.specs.declared.Geometry.{Geometry}
use Rattle.scan.specs.declared.Scoring.TheVariants as scoring
use Rattle.scan.proofs.Laws.{pick_both, if_refused_case, if_refused_none}
use Rattle.scan.proofs.Numbered.{score_number}
use Rattle.scan.proofs.Contracts.{far_step, near_step, score_step, clear_step, reset_step}
use Rattle.scan.proofs.Fresh.{fresh, began}

sums_append : (g : Geometry) (frames : List (List Float)) (sums f : List Float) → sums_from g sums (frames ++ (f ∷ [])) ≡ add_scores g (sums_from g sums frames) f
unfolding sums_from
sums_append g [] sums f = refl
sums_append g (e ∷ frames) sums f = sums_append g frames (add_scores g sums e) f

-- the frames that counted are those banked, and the lag sums are theirs
record Kept (frames : List (List Float)) (w : World) : Type 0 where
  pub banked : w.scan.verdict.banked ≡ length frames
  pub sums : w.buffers.lag_sums ≡ sums_of w.scan.geometry frames

none_kept : (w : World) → w.scan.verdict.banked ≡ 0 → w.buffers.lag_sums ≡ zeros (lags w.scan.geometry) → Kept [] w
unfolding sums_from
none_kept w b s = record { banked = b; sums = s }

-- steps 1 to 5, by whether the frame counts
pub count_case : (P : Bool → Observation → Type 0) (u a q f : Bool) (x y z t o : Observation) → P false x → P false y → P false z → P false t → P true o
    → P (both (not u) (both (not a) (both (not q) (not f)))) (pick u x (pick a y (pick q z (pick f t o))))
unfolding pick
count_case P true a q f x y z t o p₁ p₂ p₃ p₄ p₅ = p₁
count_case P false true q f x y z t o p₁ p₂ p₃ p₄ p₅ = p₂
count_case P false false true f x y z t o p₁ p₂ p₃ p₄ p₅ = p₃
count_case P false false false true x y z t o p₁ p₂ p₃ p₄ p₅ = p₄
count_case P false false false false x y z t o p₁ p₂ p₃ p₄ p₅ = p₅

module _ (slack : ℕ) (w : World) (frames : List (List Float)) (k : Kept frames w) where
  abbrev g : Geometry
  g = w.scan.geometry

  abbrev f : List Float
  f = scores_in slack w

  -- this frame's scores are in the sums
  with_this : add_scores g w.buffers.lag_sums f ≡ sums_of g (frames ++ (f ∷ []))
  with_this = ap (λ (l : List Float). add_scores g l f) k.sums ∙ sym (sums_append g frames (zeros (lags g)) f)

  abbrev ruled : Ruling
  ruled = ruling g w.scan.verdict (peak_of f) (add_scores g w.buffers.lag_sums f)

  abbrev onward : List (List Float)
  onward = pick (ltb (length frames + 1) 4) (frames ++ (f ∷ [])) []

  counted_kept : Kept onward (score_step (counted_by w (window_in slack w) f ruled (products_in slack w))).world
  unfolding ruling
  counted_kept =
      subst (λ (n : ℕ). Kept (pick (ltb (n + 1) 4) (frames ++ (f ∷ [])) []) (score_step (counted_by w (window_in slack w) f ruled (products_in slack w))).world) k.banked
      (pick_both (λ (l : List (List Float)) (r : Ruling). Kept l (score_step (counted_by w (window_in slack w) f r (products_in slack w))).world) (ltb (w.scan.verdict.banked + 1) 4) _ _ _ _
      (λ t. record { banked = omega (arith, k.banked, length-append frames (f ∷ [])); sums = with_this })
      (λ t. none_kept _ refl refl))

  score_kept : Kept (count_on slack frames w (deed score)) (called slack w (deed score)).world
  unfolding called observed scored_frame judged counted_frame pick
  score_kept =
      if_refused_case (λ (o : Observation). Kept (pick (both (eqb (refusal_of (scores o.scored.answer)) none) (counts slack w)) onward frames) (score_step o).world) (score_refusal slack w) _ _
      (λ r. rw (ne_eqb (score_refusal slack w) none r) (record { banked = k.banked; sums = k.sums }))
      (λ z. count_case (λ (b : Bool) (o : Observation). Kept (pick (both (eqb (refusal_of (scores o.scored.answer)) none) b) onward frames) (score_step o).world) (is_uncovered slack w) (is_ahead w) (quiet (window_in slack w)) (flat (frame_of w)) _ _ _ _ _
      (record { banked = k.banked; sums = k.sums }) (record { banked = k.banked; sums = k.sums }) (record { banked = k.banked; sums = k.sums }) (record { banked = k.banked; sums = k.sums }) counted_kept)

  -- a call that leaves the geometry, the verdict and the lag sums
  abbrev same : (v : World) → v.scan.geometry ≡ g → v.scan.verdict.banked ≡ w.scan.verdict.banked → v.buffers.lag_sums ≡ w.buffers.lag_sums → Kept frames v
  same v p q r = record { banked = q ∙ k.banked; sums = r ∙ k.sums ∙ ap (λ (h : Geometry). sums_of h frames) (sym p) }

  call_kept : (c : Call) → Kept (count_on slack frames w c) (called slack w c).world
  unfolding called pushed_far pushed_near rearmed discarded was_reset pick
  call_kept (far xs) = if_refused_case (λ (p : FarPush). Kept frames (far_step w.buffers p).world) (far_refusal slack w.scan w.buffers.envelope xs) _ _ (λ r. same _ refl refl refl) (λ z. same _ refl refl refl)
  call_kept (deed (near x index)) =
      if_refused_case (λ (p : NearPush). Kept frames (near_step w.buffers p).world) (near_refusal w.scan w.buffers.levels x index) _ _ (λ r. same _ refl refl refl)
      (λ z. pick_case (λ (p : NearPush). Kept frames (near_step w.buffers p).world) (finished w.scan.verdict) _ _ (λ t. same _ refl refl refl)
      (λ t. pick_case (λ (p : NearPush). Kept frames (near_step w.buffers p).world) (dropped g (held_at w.scan.near index) index) _ _ (λ d. same _ refl refl refl) (λ d. same _ refl refl refl)))
  call_kept (deed score) = score_kept
  call_kept (deed rearm) =
      if_refused_case (λ (p : Clearing). Kept (pick (eqb (refusal_of (changes p.changed.answer)) none) [] frames) (clear_step w.buffers p).world) (clear_refusal w.scan w.buffers.lag_sums) _ _
      (λ r. rw (ne_eqb (clear_refusal w.scan w.buffers.lag_sums) none r) (same _ refl refl refl)) (λ z. none_kept _ refl refl)
  call_kept (deed discard) =
      if_refused_case (λ (p : Clearing). Kept (pick (eqb (refusal_of (changes p.changed.answer)) none) [] frames) (clear_step w.buffers p).world) (clear_refusal w.scan w.buffers.lag_sums) _ _
      (λ r. rw (ne_eqb (clear_refusal w.scan w.buffers.lag_sums) none r) (same _ refl refl refl)) (λ z. none_kept _ refl refl)
  call_kept (deed reset) =
      if_refused_case (λ (p : Restart). Kept (pick (eqb (refusal_of (changes p.changed.answer)) none) [] frames) (reset_step w.buffers p).world) (reset_refusal slack w.scan w.buffers.envelope w.buffers.lag_sums) _ _
      (λ r. rw (ne_eqb (reset_refusal slack w.scan w.buffers.envelope w.buffers.lag_sums) none r) (same _ refl refl refl)) (λ z. none_kept _ refl refl)
  call_kept (deed (ask r)) = same _ refl refl refl

  -- ---- what a frame that counts is answered

  ruled_answer : ruled.answer ≡ answer_by g frames f
  unfolding ruling
  ruled_answer =
      subst (λ (n : ℕ). ruled.answer ≡ pick (ltb (n + 1) 4) (frame.Banked (narrow (peak_of f))) (decision g (averages_of g (sums_of g (frames ++ (f ∷ [])))))) k.banked
      (pick_both (λ (r : Ruling) (a : Frame). r.answer ≡ a) (ltb (w.scan.verdict.banked + 1) 4) _ _ _ _ (λ t. refl) (λ t. ap (λ (l : List Float). decision g (averages_of g l)) with_this))

  counts_answered : counts slack w ≡ true → scores (scored_frame slack w).scored.answer ≡ scores (scoring.Frame (answer_by g frames f) (products_in slack w))
  unfolding scored_frame judged counted_frame
  counts_answered =
      count_case (λ (b : Bool) (o : Observation). b ≡ true → scores o.scored.answer ≡ scores (scoring.Frame (answer_by g frames f) (products_in slack w))) (is_uncovered slack w) (is_ahead w) (quiet (window_in slack w)) (flat (frame_of w)) _ _ _ _ _
      (λ b. absurd (false≢true b)) (λ b. absurd (false≢true b)) (λ b. absurd (false≢true b)) (λ b. absurd (false≢true b))
      (λ b. ap (λ (a : Frame). scores (scoring.Frame a (products_in slack w))) ruled_answer)

  answered : refusal_of (called slack w (deed score)).response ≡ none → counts slack w ≡ true → (called slack w (deed score)).response ≡ scores (scoring.Frame (answer_by g frames f) (products_in slack w))
  unfolding called observed
  answered a c =
      let e : observed slack w ≡ scored_frame slack w = if_refused_none (score_refusal slack w) _ _ (sym (score_number slack w).is ∙ a) in
      ap (λ (o : Observation). scores o.scored.answer) e ∙ counts_answered c

-- ---- after any calls

kept_along : (slack : ℕ) (items : List Item) (w : World) (frames : List (List Float)) → Kept frames w → Kept (along (count_on slack) frames slack w items) (after slack w items)
unfolding along after
kept_along slack [] w frames k = k
kept_along slack (own c ∷ items) w frames k = kept_along slack items (called slack w c).world (count_on slack frames w c) (call_kept slack w frames k c)
kept_along slack (foreign v c ∷ items) w frames k = kept_along slack items w frames k

kept : (slack rate ceiling : ℕ) (w : World) (items : List Item) → Began slack rate ceiling w → Kept (counted_since slack w items) (after slack w items)
kept slack rate ceiling w items b = kept_along slack items w [] (subst (Kept []) (sym (began slack rate ceiling w b).is) (none_kept (fresh slack (geometry_of rate ceiling) w.buffers) refl refl))

pub sums_of_counted : SumsOfCounted
sums_of_counted slack rate ceiling w items b = let k = kept slack rate ceiling w items b in (k.banked, k.sums)

pub decides_on_four : DecidesOnFour
decides_on_four slack rate ceiling w items b = answered slack (after slack w items) (counted_since slack w items) (kept slack rate ceiling w items b)
