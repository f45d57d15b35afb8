-- The table, and each call where the profile does not allow the settings and where it does; `found` is what the code found of them.
use Prim.Native.Nat.{ℕ}
use mathlib.Core.Path.{◌≡◌, refl, sym, ap, ◌∙◌}
use mathlib.Core.List.{List}
use mathlib.Core.Bool.{Bool, true, false, not}
use lib.Ieee.{Float}
use borrow.Author.Tests.{not-true, not-false}
use Rattle.answers.specs.Pick.{pick, pick_true, pick_false}
use Rattle.answers.specs.Refusals.{outside_table}
use Rattle.answers.specs.declared.Change.TheVariants as change
use Rattle.scan.specs.State.{World, new_scan}
use Rattle.scan.specs.Calls.{Restart, restart, changed_by, making_refusal, made, was_reset, FarPush, pushed_far, untaken, pushed_near, Observation, observed, Clearing, rearmed, discarded}
use Rattle.scan.specs.declared.Changed.{Changed}
use Rattle.scan.specs.declared.Scan.{Scan}
use Rattle.scan.specs.declared.Taking.TheVariants as taking
use Rattle.scan.specs.declared.Scoring.TheVariants as scoring
use Rattle.scan.proofs.Laws.{if_refused_both}
use Rattle.scan_handover.specs.Handover.{unchanged, handed}
use Rattle.scan_handover.specs.declared.RunTaking.TheVariants as run
use Rattle.scan_panel.specs.Panel.{panel_slack, panel_table, allows, panel_making_refusal, panel_made, panel_reset, panel_rearmed, panel_discarded, panel_pushed_far, panel_pushed_near, panel_handed, panel_observed}
use Rattle.scan_panel.proofs.Panel.{panel_inside}
use Rattle.scan_panel_calls.specs.Made.{returned_by, panel_returned}

-- ---- a making

-- the profile's making, from the scan's
record Same (p q : Restart) : Type 0 where
  changed : panel_returned p.changed ≡ q.changed
  envelope : p.envelope ≡ q.envelope
  lag_sums : p.lag_sums ≡ q.lag_sums

-- one that was not refused is returned as it is
pub returned_done : (c : Changed) → c.answer ≡ change.Done → c ≡ panel_returned c
unfolding panel_returned
returned_done c e = (λ i. record { scan = c.scan; answer = e i }) ∙ sym (ap (returned_by c.scan) e)

module _ (rate ceiling : ℕ) (envelope lag_sums : List Float) {found : Bool} (is : found ≡ panel_table rate ceiling) where
  pub not_made : not found ≡ true → restart (changed_by (change.Refused outside_table) (new_scan 8000 8)) envelope lag_sums ≡ panel_made rate ceiling envelope lag_sums
  unfolding panel_made
  not_made n =
      let z : panel_making_refusal rate ceiling envelope lag_sums ≡ outside_table = (unfold panel_making_refusal in pick_false (panel_table rate ceiling) _ outside_table (sym is ∙ not-true found n)) in
      rw z (unfold pick in refl)

  -- it judges as the scan's does, which returns another state where it is refused
  same_refusal : not found ≡ false → making_refusal panel_slack rate ceiling envelope lag_sums ≡ panel_making_refusal rate ceiling envelope lag_sums
  unfolding making_refusal panel_making_refusal
  same_refusal n =
      let t : panel_table rate ceiling ≡ true = sym is ∙ not-false found n in
      pick_true _ _ outside_table (panel_inside rate ceiling t) ∙ sym (pick_true (panel_table rate ceiling) _ outside_table t)

  is_made_by : not found ≡ false → Same (made panel_slack rate ceiling envelope lag_sums) (panel_made rate ceiling envelope lag_sums)
  unfolding made panel_made panel_returned
  is_made_by n =
      rw (same_refusal n)
      (if_refused_both Same (panel_making_refusal rate ceiling envelope lag_sums) _ _ _ _ (record { changed = refl; envelope = refl; lag_sums = refl }) (λ z. record { changed = refl; envelope = refl; lag_sums = refl }))

  pub is_made : not found ≡ false → panel_returned (made panel_slack rate ceiling envelope lag_sums).changed ≡ (panel_made rate ceiling envelope lag_sums).changed
  is_made n = (is_made_by n).changed

  pub is_made_envelope : not found ≡ false → (made panel_slack rate ceiling envelope lag_sums).envelope ≡ (panel_made rate ceiling envelope lag_sums).envelope
  is_made_envelope n = (is_made_by n).envelope

  pub is_made_sums : not found ≡ false → (made panel_slack rate ceiling envelope lag_sums).lag_sums ≡ (panel_made rate ceiling envelope lag_sums).lag_sums
  is_made_sums n = (is_made_by n).lag_sums

-- ---- the other calls

-- what a call gives where the settings are not allowed, and where they are
pub turned_down : {A : Type 0} {found t : Bool} (x y : A) → found ≡ t → not found ≡ true → y ≡ pick t x y
turned_down x y is n = sym (pick_false _ x y (sym is ∙ not-true _ n))

pub goes_on : {A : Type 0} {found t : Bool} (x y : A) → found ≡ t → not found ≡ false → x ≡ pick t x y
goes_on x y is n = sym (pick_true _ x y (sym is ∙ not-false _ n))

module _ (s : Scan) {found : Bool} (is : found ≡ allows s) where
  module _ (n : not found ≡ true) where
    pub not_reset : (envelope lag_sums : List Float) → restart (changed_by (change.Refused outside_table) s) envelope lag_sums ≡ panel_reset s envelope lag_sums
    unfolding panel_reset
    not_reset envelope lag_sums = turned_down (was_reset panel_slack s envelope lag_sums) _ is n

    pub not_rearmed : (lag_sums : List Float) → ◌≡◌ {A = Clearing} (record { changed = changed_by (change.Refused outside_table) s; lag_sums = lag_sums }) (panel_rearmed s lag_sums)
    unfolding panel_rearmed
    not_rearmed lag_sums = turned_down (rearmed s lag_sums) _ is n

    pub not_discarded : (lag_sums : List Float) → ◌≡◌ {A = Clearing} (record { changed = changed_by (change.Refused outside_table) s; lag_sums = lag_sums }) (panel_discarded s lag_sums)
    unfolding panel_discarded
    not_discarded lag_sums = turned_down (discarded s lag_sums) _ is n

    pub not_pushed_far : (envelope xs : List Float) → ◌≡◌ {A = FarPush} (record { changed = changed_by (change.Refused outside_table) s; envelope = envelope }) (panel_pushed_far s envelope xs)
    unfolding panel_pushed_far
    not_pushed_far envelope xs = turned_down (pushed_far panel_slack s envelope xs) _ is n

    pub not_pushed_near : (levels : List Float) (x : Float) (index : ℕ) → untaken s levels (taking.Refused outside_table) ≡ panel_pushed_near s levels x index
    unfolding panel_pushed_near
    not_pushed_near levels x index = turned_down (pushed_near s levels x index) _ is n

    pub not_handed : (levels xs : List Float) (first : ℕ) → unchanged s levels (run.Refused outside_table) ≡ panel_handed s levels xs first
    unfolding panel_handed
    not_handed levels xs first = turned_down (handed s levels xs first) _ is n

  module _ (n : not found ≡ false) where
    pub is_reset : (envelope lag_sums : List Float) → was_reset panel_slack s envelope lag_sums ≡ panel_reset s envelope lag_sums
    unfolding panel_reset
    is_reset envelope lag_sums = goes_on _ _ is n

    pub is_rearmed : (lag_sums : List Float) → rearmed s lag_sums ≡ panel_rearmed s lag_sums
    unfolding panel_rearmed
    is_rearmed lag_sums = goes_on _ _ is n

    pub is_discarded : (lag_sums : List Float) → discarded s lag_sums ≡ panel_discarded s lag_sums
    unfolding panel_discarded
    is_discarded lag_sums = goes_on _ _ is n

    pub is_pushed_far : (envelope xs : List Float) → pushed_far panel_slack s envelope xs ≡ panel_pushed_far s envelope xs
    unfolding panel_pushed_far
    is_pushed_far envelope xs = goes_on _ _ is n

    pub is_pushed_near : (levels : List Float) (x : Float) (index : ℕ) → pushed_near s levels x index ≡ panel_pushed_near s levels x index
    unfolding panel_pushed_near
    is_pushed_near levels x index = goes_on _ _ is n

    pub is_handed : (levels xs : List Float) (first : ℕ) → handed s levels xs first ≡ panel_handed s levels xs first
    unfolding panel_handed
    is_handed levels xs first = goes_on _ _ is n

module _ (w : World) {found : Bool} (is : found ≡ allows w.scan) where
  pub not_observed : not found ≡ true → ◌≡◌ {A = Observation} (record { scored = record { scan = w.scan; answer = scoring.Refused outside_table }; buffers = w.buffers }) (panel_observed w)
  unfolding panel_observed
  not_observed n = turned_down (observed panel_slack w) _ is n

  pub is_observed : not found ≡ false → observed panel_slack w ≡ panel_observed w
  unfolding panel_observed
  is_observed n = goes_on _ _ is n
