-- What every call keeps of a state: the settings, so that what the profile allows stays so; and that the near side's running sum is of the type f64.
use Prim.Native.Nat.{ℕ, ◌+◌}
use mathlib.Core.Path.{◌≡◌, refl, ap, ◌∙◌}
use mathlib.Core.List.{List, [], ◌∷◌}
use mathlib.Core.Bool.{true}
use lib.Dec.{T, eqb}
use lib.ListN.{length}
use lib.Ieee.{Float, binary64, fits}
use Rattle.answers.specs.Pick.{pick_case}
use Rattle.floats.specs.Functions.{zero64}
use Rattle.scan.specs.State.{World, finished}
use Rattle.scan.specs.Blocks.{Seen, gather, hole, held_at, dropped}
use Rattle.scan.specs.Scoring.{quiet, flat}
use Rattle.scan.specs.Calls.{FarPush, NearPush, Observation, Clearing, Restart, is_uncovered, is_ahead, far_refusal, pushed_far, near_refusal, pushed_near, score_refusal, counted_frame, judged, scored_frame, observed, clear_refusal, rearmed, discarded, reset_refusal, was_reset}
use Rattle.scan.specs.Steps.{near, score, rearm, discard, reset, ask, Call, far, deed, called}
use Rattle.scan.specs.declared.Geometry.{Geometry}
use Rattle.scan.specs.declared.Near.{Near}
use Rattle.scan.specs.declared.Scan.{Scan}
use Rattle.scan.proofs.Laws.{if_refused_case}
use Rattle.scan_handover.specs.Handover.{run_refusal, NearRun, gather_all, handed}
use Rattle.scan_handover.specs.InStreams.{after_run}
use Rattle.scan_handover.proofs.Places.{gather_fits}
use Rattle.scan_panel.specs.Panel.{panel_table, allows}

-- ---- no call changes the settings, nor what follows from them

module _ (slack : ℕ) (w : World) where
  abbrev g : Geometry
  g = w.scan.geometry

  pub geometry_stays : (c : Call) → (called slack w c).world.scan.geometry ≡ g
  unfolding called pushed_far pushed_near observed scored_frame judged counted_frame rearmed discarded was_reset
  geometry_stays (far xs) = if_refused_case (λ (p : FarPush). p.changed.scan.geometry ≡ g) (far_refusal slack w.scan w.buffers.envelope xs) _ _ (λ r. refl) (λ z. refl)
  geometry_stays (deed (near x index)) =
      if_refused_case P (near_refusal w.scan w.buffers.levels x index) _ _ (λ r. refl)
      (λ z. pick_case P (finished w.scan.verdict) _ _ (λ f. refl) (λ f. pick_case P (dropped g (held_at w.scan.near index) index) _ _ (λ d. refl) (λ d. refl)))
    where
      P : NearPush → Type 0
      P p = p.took.scan.geometry ≡ w.scan.geometry
  geometry_stays (deed score) =
      if_refused_case P (score_refusal slack w) _ _ (λ r. refl)
      (λ z. pick_case P (is_uncovered slack w) _ _ (λ u. refl) (λ u. pick_case P (is_ahead w) _ _ (λ t. refl) (λ t. pick_case P (quiet _) _ _ (λ q. refl) (λ q. pick_case P (flat _) _ _ (λ f. refl) (λ f. refl)))))
    where
      P : Observation → Type 0
      P p = p.scored.scan.geometry ≡ w.scan.geometry
  geometry_stays (deed rearm) = if_refused_case (λ (p : Clearing). p.changed.scan.geometry ≡ g) (clear_refusal w.scan w.buffers.lag_sums) _ _ (λ r. refl) (λ z. refl)
  geometry_stays (deed discard) = if_refused_case (λ (p : Clearing). p.changed.scan.geometry ≡ g) (clear_refusal w.scan w.buffers.lag_sums) _ _ (λ r. refl) (λ z. refl)
  geometry_stays (deed reset) = if_refused_case (λ (p : Restart). p.changed.scan.geometry ≡ g) (reset_refusal slack w.scan w.buffers.envelope w.buffers.lag_sums) _ _ (λ r. refl) (λ z. refl)
  geometry_stays (deed (ask r)) = refl

  -- so what is allowed stays so
  pub allows_stays : (c : Call) → allows w.scan ≡ true → allows (called slack w c).world.scan ≡ true
  allows_stays c t = ap (λ (h : Geometry). panel_table h.rate h.ceiling) (geometry_stays c) ∙ t

-- ---- the running sum

abbrev pub SumFits : Scan → Type 0
SumFits s = T (fits binary64 s.near.sum)

pub none_fits : T (fits binary64 zero64)
unfolding fits
none_fits = tt

gathers : (g : Geometry) (xs : List Float) (t : Seen) → T (fits binary64 t.near.sum) → (index : ℕ) → T (fits binary64 (gather_all g t xs index).near.sum)
unfolding gather_all
gathers g [] t h index = h
gathers g (x ∷ xs) t h index = gathers g xs (gather g t x index) (gather_fits g t.near t.levels x index) (index + 1)

module _ (slack : ℕ) (w : World) (sum : SumFits w.scan) where
  held_fits : (index : ℕ) → T (fits binary64 (held_at w.scan.near index).sum)
  held_fits index = pick_case (λ (n : Near). T (fits binary64 n.sum)) (hole w.scan.near index) _ _ (λ t. none_fits) (λ t. sum)

  pub sum_stays : (c : Call) → SumFits (called slack w c).world.scan
  unfolding called pushed_far pushed_near observed scored_frame judged counted_frame rearmed discarded was_reset
  sum_stays (far xs) = if_refused_case (λ (p : FarPush). SumFits p.changed.scan) (far_refusal slack w.scan w.buffers.envelope xs) _ _ (λ r. sum) (λ z. sum)
  sum_stays (deed (near x index)) =
      if_refused_case P (near_refusal w.scan w.buffers.levels x index) _ _ (λ r. sum)
      (λ z. pick_case P (finished w.scan.verdict) _ _ (λ f. sum)
      (λ f. pick_case P (dropped w.scan.geometry (held_at w.scan.near index) index) _ _ (λ d. held_fits index) (λ d. gather_fits w.scan.geometry (held_at w.scan.near index) w.buffers.levels x index)))
    where
      P : NearPush → Type 0
      P p = SumFits p.took.scan
  sum_stays (deed score) =
      if_refused_case P (score_refusal slack w) _ _ (λ r. sum)
      (λ z. pick_case P (is_uncovered slack w) _ _ (λ u. sum)
      (λ u. pick_case P (is_ahead w) _ _ (λ t. sum) (λ t. pick_case P (quiet _) _ _ (λ q. sum) (λ q. pick_case P (flat _) _ _ (λ f. sum) (λ f. sum)))))
    where
      P : Observation → Type 0
      P p = SumFits p.scored.scan
  sum_stays (deed rearm) = if_refused_case (λ (p : Clearing). SumFits p.changed.scan) (clear_refusal w.scan w.buffers.lag_sums) _ _ (λ r. sum) (λ z. none_fits)
  sum_stays (deed discard) = if_refused_case (λ (p : Clearing). SumFits p.changed.scan) (clear_refusal w.scan w.buffers.lag_sums) _ _ (λ r. sum) (λ z. none_fits)
  sum_stays (deed reset) = if_refused_case (λ (p : Restart). SumFits p.changed.scan) (reset_refusal slack w.scan w.buffers.envelope w.buffers.lag_sums) _ _ (λ r. sum) (λ z. none_fits)
  sum_stays (deed (ask r)) = sum

  pub run_sum_stays : (xs : List Float) (first : ℕ) → SumFits (after_run w xs first).scan
  unfolding handed
  run_sum_stays xs first =
      if_refused_case P (run_refusal w.scan w.buffers.levels xs first) _ _ (λ r. sum)
      (λ z. pick_case P (eqb (length xs) 0) _ _ (λ e. sum) (λ e. pick_case P (finished w.scan.verdict) _ _ (λ f. sum) (λ f. gathers w.scan.geometry _ _ (held_fits first) _)))
    where
      P : NearRun → Type 0
      P r = SumFits r.handed.scan

-- ---- a run leaves all of a state but its near side

pub record Beside (s t : Scan) : Type 0 where
  pub geometry : t.geometry ≡ s.geometry
  pub far : t.far ≡ s.far
  pub verdict : t.verdict ≡ s.verdict

pub beside : (s : Scan) (levels xs : List Float) (first : ℕ) → Beside s (handed s levels xs first).handed.scan
unfolding handed
beside s levels xs first =
    if_refused_case P (run_refusal s levels xs first) _ _ (λ r. record { geometry = refl; far = refl; verdict = refl })
    (λ z. pick_case P (eqb (length xs) 0) _ _ (λ e. record { geometry = refl; far = refl; verdict = refl })
    (λ e. pick_case P (finished s.verdict) _ _ (λ f. record { geometry = refl; far = refl; verdict = refl }) (λ f. record { geometry = refl; far = refl; verdict = refl })))
  where
    P : NearRun → Type 0
    P r = Beside s r.handed.scan
