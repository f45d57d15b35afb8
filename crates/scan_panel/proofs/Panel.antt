-- The profile by itself: its table lies inside the scan's, its buffers fit the panel, and on allowed settings each of its calls is the scan's at its slack.
use Prim.Native.Nat.{ℕ, ◌≤◌}
use mathlib.Core.Path.{◌≡◌, refl, sym, ap, ◌∙◌}
use mathlib.Core.Logic.{◌⊎◌, inl, inr}
use mathlib.Core.Bool.{Bool, true, false}
use mathlib.Core.List.{List}
use lib.Ieee.{Float}
use native.Mathlib.Omega.{arith}
use lib.Dec.{leb, eqb}
use borrow.Author.Tests.{leb-true, eqb-true, le-leb, eq-eqb}
use Rattle.answers.specs.Pick.{pick, both, either, pick_true, pick_false}
use Rattle.answers.specs.Refusals.{none, outside_table}
use Rattle.answers.proofs.Refusals.{passed}
use Rattle.answers.specs.Numbers.{within, allowed_rate, allowed_ceiling}
use Rattle.scan.specs.Bins.{in_table, geometry_of, envelope_len, near_len, window_len, prefix_len, lags}
use Rattle.scan.specs.State.{Buffers, World, new_scan}
use Rattle.scan.specs.Calls.{Restart, made, making_refusal}
use Rattle.scan.specs.Steps
use Rattle.scan.specs.Steps.{Report, bin_samples_report, ceiling_samples_report, region, beyond_ceiling_report, frames, correlation, exhausted, near, score, rearm, discard, reset, ask, Call, far, deed, refusal_of, changes, Step, reported, called, making}
use Rattle.scan.specs.declared.Scan.{Scan}
use Rattle.scan_handover.specs.Handover.{handed, unchanged}
use Rattle.scan_handover.specs.declared.RunTaking.TheVariants as run
use Rattle.scan.proofs.Laws.{if_refused_case, both_and, both_left, both_right}
use Rattle.scan.proofs.Contracts.{reset_step}
use Rattle.scan_panel.specs.Panel.{panel_slack, panel_table, allows, buffer_bytes, panel_bytes, panel_room, panel_making_refusal, panel_made, panel_reset, panel_pushed_far, panel_pushed_near, panel_handed, panel_observed, panel_rearmed, panel_discarded, panel_bin_samples, panel_ceiling_samples, panel_region_of, panel_beyond_ceiling, panel_frames_of, panel_correlation_of, panel_is_finished, panel_is_exhausted, panel_reported, panel_called, panel_making}

-- ---- the table

pub record PanelSettings (rate ceiling : ℕ) : Type 0 where
  pub rates : (rate ≡ 8000) ⊎ (rate ≡ 16000)
  pub least : 8 ≤ ceiling
  pub most : ceiling ≤ 320

one_of : (rate : ℕ) (t : Bool) → eqb rate 8000 ≡ t → either t (eqb rate 16000) ≡ true → (rate ≡ 8000) ⊎ (rate ≡ 16000)
unfolding pick
one_of rate true e h = inl (eqb-true rate 8000 e)
one_of rate false e h = inr (eqb-true rate 16000 h)

pub panel_settings : (rate ceiling : ℕ) → panel_table rate ceiling ≡ true → PanelSettings rate ceiling
unfolding panel_table
panel_settings rate ceiling t =
    let c = both_right (either (eqb rate 8000) (eqb rate 16000)) (within 8 320 ceiling) t in
    record {
      rates = one_of rate (eqb rate 8000) refl (both_left (either (eqb rate 8000) (eqb rate 16000)) (within 8 320 ceiling) t);
      least = leb-true 8 ceiling (both_left (leb 8 ceiling) (leb ceiling 320) c);
      most = leb-true ceiling 320 (both_right (leb 8 ceiling) (leb ceiling 320) c);
    }

-- what the profile allows the scan allows
pub panel_inside : (rate ceiling : ℕ) → panel_table rate ceiling ≡ true → in_table rate ceiling ≡ true
unfolding in_table
panel_inside rate ceiling t = go p.rates
  where
    p : PanelSettings rate ceiling
    p = panel_settings rate ceiling t

    go : (rate ≡ 8000) ⊎ (rate ≡ 16000) → both (allowed_rate rate) (allowed_ceiling ceiling) ≡ true
    go (inl e) = both_and _ _ (both_and _ _ (le-leb 8000 rate (omega arith)) (le-leb rate 192000 (omega arith))) (both_and _ _ (le-leb 1 ceiling (omega (arith, p.least))) (le-leb ceiling 4000 (omega (arith, p.most))))
    go (inr e) = both_and _ _ (both_and _ _ (le-leb 8000 rate (omega arith)) (le-leb rate 192000 (omega arith))) (both_and _ _ (le-leb 1 ceiling (omega (arith, p.least))) (le-leb ceiling 4000 (omega (arith, p.most))))

-- its edges, by computation
pub panel_edges : (panel_table 8000 8 ≡ true) × (panel_table 16000 320 ≡ true) × (panel_table 8000 7 ≡ false) × (panel_table 8000 321 ≡ false) × (panel_table 12000 100 ≡ false) × (panel_table 48000 100 ≡ false)
unfolding panel_table pick
panel_edges = (refl, refl, refl, refl, refl, refl)

-- ---- the room

-- at 320 ms, the most: far envelope, near envelope, window, prefixes, lag scores and lag sums, the bytes of all seven, and with those of the state
pub panel_lengths : (envelope_len panel_slack (geometry_of 16000 320) ≡ 1088) × (near_len (geometry_of 16000 320) ≡ 256) × (window_len (geometry_of 16000 320) ≡ 576) × (prefix_len (geometry_of 16000 320) ≡ 577) × (lags (geometry_of 16000 320) ≡ 321) × (buffer_bytes (geometry_of 16000 320) ≡ 22048) × (panel_bytes (geometry_of 16000 320) ≡ 22248)
unfolding geometry_of
panel_lengths = (refl, refl, refl, refl, refl, refl, refl)

-- the seven buffers and the state fit 24 KiB, whatever the allowed settings
pub panel_fits : (rate ceiling : ℕ) → panel_table rate ceiling ≡ true → panel_bytes (geometry_of rate ceiling) ≤ panel_room
unfolding geometry_of
panel_fits rate ceiling t = go p.rates
  where
    p : PanelSettings rate ceiling
    p = panel_settings rate ceiling t

    go : (rate ≡ 8000) ⊎ (rate ≡ 16000) → panel_bytes (geometry_of rate ceiling) ≤ panel_room
    go (inl e) = rw e (omega (arith, p.most))
    go (inr e) = rw e (omega (arith, p.most))

-- ---- the calls

-- a report of allowed settings is the scan's
panel_reported_lem : (w : World) (r : Report) → allows w.scan ≡ true → panel_reported w.scan r ≡ reported w.scan r
panel_reported_lem w bin_samples_report t = (unfold panel_bin_samples pick in rw t)
panel_reported_lem w ceiling_samples_report t = (unfold panel_ceiling_samples pick in rw t)
panel_reported_lem w region t = (unfold panel_region_of pick in rw t)
panel_reported_lem w beyond_ceiling_report t = (unfold panel_beyond_ceiling pick in rw t)
panel_reported_lem w frames t = (unfold panel_frames_of pick in rw t)
panel_reported_lem w correlation t = (unfold panel_correlation_of pick in rw t)
panel_reported_lem w Steps.finished t = (unfold panel_is_finished pick in rw t)
panel_reported_lem w exhausted t = (unfold panel_is_exhausted pick in rw t)

-- on allowed settings each call is the scan's at the profile's slack
pub panel_called_lem : (w : World) (c : Call) → allows w.scan ≡ true → panel_called w c ≡ called panel_slack w c
unfolding panel_called called
panel_called_lem w (far xs) t = (unfold panel_pushed_far pick in rw t)
panel_called_lem w (deed (near x index)) t = (unfold panel_pushed_near pick in rw t)
panel_called_lem w (deed score) t = (unfold panel_observed pick in rw t)
panel_called_lem w (deed rearm) t = (unfold panel_rearmed pick in rw t)
panel_called_lem w (deed discard) t = (unfold panel_discarded pick in rw t)
panel_called_lem w (deed reset) t = (unfold panel_reset pick in rw t)
panel_called_lem w (deed (ask r)) t = (rw (panel_reported_lem w r t))

-- a run of near samples too
pub panel_handed_lem : (s : Scan) (levels xs : List Float) (first : ℕ) → allows s ≡ true → panel_handed s levels xs first ≡ handed s levels xs first
unfolding panel_handed
panel_handed_lem s levels xs first t = pick_true (allows s) _ _ t

-- ---- what the profile does not allow

-- a call is refused with 1, and changes nothing
pub record Refused (w : World) (s : Step) : Type 0 where
  pub number : refusal_of s.response ≡ outside_table
  pub world : s.world ≡ w

report_refused : (w : World) (r : Report) → allows w.scan ≡ false → refusal_of (panel_reported w.scan r) ≡ outside_table
report_refused w bin_samples_report t = (unfold panel_bin_samples pick in rw t)
report_refused w ceiling_samples_report t = (unfold panel_ceiling_samples pick in rw t)
report_refused w region t = (unfold panel_region_of pick in rw t)
report_refused w beyond_ceiling_report t = (unfold panel_beyond_ceiling pick in rw t)
report_refused w frames t = (unfold panel_frames_of pick in rw t)
report_refused w correlation t = (unfold panel_correlation_of pick in rw t)
report_refused w Steps.finished t = (unfold panel_is_finished pick in rw t)
report_refused w exhausted t = (unfold panel_is_exhausted pick in rw t)

pub panel_refused : (w : World) (c : Call) → allows w.scan ≡ false → Refused w (panel_called w c)
unfolding panel_called
panel_refused w (far xs) t = (unfold panel_pushed_far pick in rw t (record { number = refl; world = refl }))
panel_refused w (deed (near x index)) t = (unfold panel_pushed_near pick in rw t (record { number = refl; world = refl }))
panel_refused w (deed score) t = (unfold panel_observed pick in rw t (record { number = refl; world = refl }))
panel_refused w (deed rearm) t = (unfold panel_rearmed pick in rw t (record { number = refl; world = refl }))
panel_refused w (deed discard) t = (unfold panel_discarded pick in rw t (record { number = refl; world = refl }))
panel_refused w (deed reset) t = (unfold panel_reset pick in rw t (record { number = refl; world = refl }))
panel_refused w (deed (ask r)) t = record { number = report_refused w r t; world = refl }

pub run_refused : (s : Scan) (levels xs : List Float) (first : ℕ) → allows s ≡ false → panel_handed s levels xs first ≡ unchanged s levels (run.Refused outside_table)
unfolding panel_handed
run_refused s levels xs first t = pick_false (allows s) _ _ t

-- a refused making returns the state for rate 8,000 and ceiling 8, which the profile allows
pub panel_unmade : (rate ceiling : ℕ) (b : Buffers) → (refusal_of (panel_making rate ceiling b).response ≡ none → ⊥) → (panel_making rate ceiling b).world.scan ≡ new_scan 8000 8
unfolding panel_making panel_made
panel_unmade rate ceiling b =
    if_refused_case (λ (p : Restart). (refusal_of (changes p.changed.answer) ≡ none → ⊥) → p.changed.scan ≡ new_scan 8000 8) (panel_making_refusal rate ceiling b.envelope b.lag_sums) _ _ (λ r f. refl) (λ z f. absurd (f refl))

-- a making that is not refused is the scan's
pub panel_made_lem : (rate ceiling : ℕ) (b : Buffers) → refusal_of (panel_making rate ceiling b).response ≡ none → panel_making rate ceiling b ≡ making panel_slack rate ceiling b
unfolding panel_making panel_made panel_making_refusal making made making_refusal
panel_made_lem rate ceiling b =
    if_refused_case (λ (p : Restart). refusal_of (changes p.changed.answer) ≡ none → reset_step b p ≡ reset_step b (made panel_slack rate ceiling b.envelope b.lag_sums)) (panel_making_refusal rate ceiling b.envelope b.lag_sums) _ _ (λ r e. absurd (r e))
    (λ z e. ap (reset_step b) (sym (pick_true _ _ _ (eq-eqb _ none (both_pass z)))))
  where
    both_pass : panel_making_refusal rate ceiling b.envelope b.lag_sums ≡ none → making_refusal panel_slack rate ceiling b.envelope b.lag_sums ≡ none
    both_pass z =
        let a = passed (panel_table rate ceiling) 0 _ z in
        pick_true (in_table rate ceiling) _ outside_table (panel_inside rate ceiling a.0) ∙ a.1
