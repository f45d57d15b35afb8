-- Each call by the number of the channel that it names, and a making and a reset with the refusal number n that the code found.
use Prim.Native.Nat.{ℕ, ◌≤◌, ◌<◌}
use mathlib.Core.Path.{◌≡◌, sym, ap, ◌∙◌}
use mathlib.Core.List.{List}
use mathlib.Core.Bool.{Bool, true}
use lib.Dec.{eqb}
use lib.ListN.{length}
use lib.Ieee.{Float}
use borrow.Author.Tests.{eqb-true, eq-eqb, ne_eqb}
use Rattle.answers.specs.Pick.{pick_true, pick_false}
use Rattle.answers.specs.declared.Change.TheVariants as change
use Rattle.answers.proofs.Refusals.{passed, passed_both}
use Rattle.folds.specs.Sums.{zeros}
use Rattle.scan.specs.Bins.{in_table, geometry_of, envelope_len, lags}
use Rattle.scan.specs.State.{Buffers, due, first_refusals}
use Rattle.scan.specs.Calls.{restart_lengths, NearPush, pushed_near, Observation, observed, Clearing, rearmed, discarded}
use Rattle.scan.specs.declared.Geometry.{Geometry}
use Rattle.scan.specs.declared.Scan.{Scan}
use Rattle.scan.specs.declared.Taking.TheVariants as taking
use Rattle.scan.specs.declared.Scoring.TheVariants as scoring
use Rattle.scan_handover.specs.Handover.{NearRun, handed}
use Rattle.scan_handover.specs.declared.RunTaking.TheVariants as run
use Rattle.scan.proofs.Laws.{both_and, both_left, both_right, if_refused_none, if_refused_refused}
use Rattle.scan.proofs.Accepted.{first_passed, follows_by}
use Rattle.scan_pair.specs.State.{Side, Named, named, side_of, no_such_channel, on_channel, restarted, new_pair, as_scan, common}
use Rattle.scan_pair.specs.Calls.{left_in, scan_of, PairClearing, pair_near, pair_observed, pair_rearmed, pair_discarded, restart_by, both_lengths, pair_making_refusal, pair_made, pair_reset_refusal, pair_reset}
use Rattle.scan_pair.specs.declared.Pair.{Pair}
use Rattle.scan_pair_calls.specs.Runs.{pair_handed}
use Rattle.scan_pair.proofs.Channels.{named_none, named_side, side_zero, side_one}

-- ---- the channel that a number names

pub on_none : {A : Type 0} (c : ℕ) (refused : A) (call : Side → A) → 2 ≤ c → refused ≡ on_channel (named c) refused call
on_none c refused call l = sym (ap (λ (n : Named). on_channel n refused call) (named_none c l))

pub on_side : {A : Type 0} (c : ℕ) (refused : A) (call : Side → A) → c < 2 → call (side_of c) ≡ on_channel (named c) refused call
on_side c refused call l = sym (ap (λ (n : Named). on_channel n refused call) (named_side c l))

-- ---- the calls that name a channel

module _ (p : Pair) (c : ℕ) where
  abbrev side : Side
  side = side_of c

  abbrev scan : Scan
  scan = scan_of p side

  module _ (levels : List Float) (x : Float) (index : ℕ) where
    abbrev pushed : NearPush
    pushed = pushed_near scan levels x index

    pub not_near : 2 ≤ c → record { took = record { pair = p; answer = taking.Refused no_such_channel }; levels = levels } ≡ pair_near p (named c) levels x index
    unfolding pair_near
    not_near l = on_none c _ _ l

    pub is_near : c < 2 → record { took = record { pair = left_in p side pushed.took.scan; answer = pushed.took.answer }; levels = pushed.levels } ≡ pair_near p (named c) levels x index
    unfolding pair_near
    is_near l = on_side c _ _ l

  module _ (levels xs : List Float) (start : ℕ) where
    abbrev ran : NearRun
    ran = handed scan levels xs start

    pub not_run : 2 ≤ c → record { handed = record { pair = p; answer = run.Refused no_such_channel }; levels = levels } ≡ pair_handed p (named c) levels xs start
    unfolding pair_handed
    not_run l = on_none c _ _ l

    pub is_run : c < 2 → record { handed = record { pair = left_in p side ran.handed.scan; answer = ran.handed.answer }; levels = ran.levels } ≡ pair_handed p (named c) levels xs start
    unfolding pair_handed
    is_run l = on_side c _ _ l

  module _ (slack : ℕ) (b : Buffers) where
    abbrev scored : Observation
    scored = observed slack (record { scan = scan; buffers = b })

    pub not_scored : 2 ≤ c → record { scored = record { pair = p; answer = scoring.Refused no_such_channel }; buffers = b } ≡ pair_observed slack p (named c) b
    unfolding pair_observed
    not_scored l = on_none c _ _ l

    pub is_scored : c < 2 → record { scored = record { pair = left_in p side scored.scored.scan; answer = scored.scored.answer }; buffers = scored.buffers } ≡ pair_observed slack p (named c) b
    unfolding pair_observed
    is_scored l = on_side c _ _ l

    -- with what the scan's call gave back, and the pair that it was put into
    pub scored_by : c < 2 → {o : Observation} → o ≡ scored → {next : Pair} → next ≡ left_in p side o.scored.scan → record { scored = record { pair = next; answer = o.scored.answer }; buffers = o.buffers } ≡ pair_observed slack p (named c) b
    scored_by l {o} e {next} f =
        ap (λ (z : Pair). record { scored = record { pair = z; answer = o.scored.answer }; buffers = o.buffers }) f
        ∙ ap (λ (z : Observation). record { scored = record { pair = left_in p side z.scored.scan; answer = z.scored.answer }; buffers = z.buffers }) e
        ∙ is_scored l

  module _ (sums : List Float) where
    abbrev cleared : Clearing → PairClearing
    cleared q = record { changed = record { pair = left_in p side q.changed.scan; answer = q.changed.answer }; lag_sums = q.lag_sums }

    abbrev uncleared : PairClearing
    uncleared = record { changed = record { pair = p; answer = change.Refused no_such_channel }; lag_sums = sums }

    pub not_rearmed : 2 ≤ c → uncleared ≡ pair_rearmed p (named c) sums
    unfolding pair_rearmed
    not_rearmed l = on_none c _ _ l

    pub is_rearmed : c < 2 → cleared (rearmed scan sums) ≡ pair_rearmed p (named c) sums
    unfolding pair_rearmed
    is_rearmed l = on_side c _ _ l

    pub not_discarded : 2 ≤ c → uncleared ≡ pair_discarded p (named c) sums
    unfolding pair_discarded
    not_discarded l = on_none c _ _ l

    pub is_discarded : c < 2 → cleared (discarded scan sums) ≡ pair_discarded p (named c) sums
    unfolding pair_discarded
    is_discarded l = on_side c _ _ l

-- ---- a making and a reset

-- all three lists cleared, of the lengths that a geometry gives
cleared_by : (slack : ℕ) (g : Geometry) (p : Pair) (envelope first_sums second_sums : List Float) → both_lengths slack g envelope first_sums second_sums ≡ true
    → restart_by change.Done p (zeros (length envelope)) (zeros (length first_sums)) (zeros (length second_sums)) ≡ restart_by change.Done p (zeros (envelope_len slack g)) (zeros (lags g)) (zeros (lags g))
cleared_by slack g p envelope first_sums second_sums h =
    let one = both_left (restart_lengths slack g envelope first_sums) _ h in
    let two = both_right (restart_lengths slack g envelope first_sums) _ h in
    let a : length envelope ≡ envelope_len slack g = eqb-true _ _ (both_left (eqb (length envelope) (envelope_len slack g)) _ one) in
    let b : length first_sums ≡ lags g = eqb-true _ _ (both_right (eqb (length envelope) (envelope_len slack g)) _ one) in
    let c : length second_sums ≡ lags g = eqb-true _ _ (both_right (eqb (length envelope) (envelope_len slack g)) _ two) in
    rw (a, b, c)

-- the lengths, where those of the envelope and of the first channel's sums are right
pub lengths_last : (slack : ℕ) (g : Geometry) (envelope first_sums second_sums : List Float) → length envelope ≡ envelope_len slack g → length first_sums ≡ lags g
    → eqb (length second_sums) (lags g) ≡ both_lengths slack g envelope first_sums second_sums
lengths_last slack g envelope first_sums second_sums e f =
    sym (pick_true _ _ _ (both_and (eqb (length envelope) (envelope_len slack g)) _ (eq-eqb _ _ e) (eq-eqb _ _ f)) ∙ pick_true _ _ _ (eq-eqb _ _ e))

-- the refusals of a reset: m is the first channel's number, n the second's
module _ (slack : ℕ) (p : Pair) (envelope first_sums second_sums : List Float) {fit : Bool} (is : fit ≡ both_lengths slack (due (common p)) envelope first_sums second_sums) {m : ℕ} (one : m ≡ first_refusals (scan_of p (side_of 0)) fit) where
  of_first_lem : m ≡ first_refusals (as_scan p p.first) (both_lengths slack (due (common p)) envelope first_sums second_sums)
  of_first_lem = one ∙ ap (λ (d : Side). first_refusals (scan_of p d) fit) side_zero ∙ ap (first_refusals (as_scan p p.first)) is

  pub first_tells : (m ≡ 0 → ⊥) → m ≡ pair_reset_refusal slack p envelope first_sums second_sums
  unfolding pair_reset_refusal
  first_tells h = of_first_lem ∙ sym (pick_false _ _ _ (ne_eqb _ 0 (λ z. h (of_first_lem ∙ z))))

  pub second_tells : m ≡ 0 → {n : ℕ} → n ≡ first_refusals (scan_of p (side_of 1)) fit → n ≡ pair_reset_refusal slack p envelope first_sums second_sums
  unfolding pair_reset_refusal
  second_tells z two =
      two ∙ ap (λ (d : Side). first_refusals (scan_of p d) fit) side_one ∙ ap (first_refusals (as_scan p p.second)) is ∙ sym (pick_true _ _ _ (eq-eqb _ 0 (sym of_first_lem ∙ z)))

module _ (slack rate ceiling : ℕ) (envelope first_sums second_sums : List Float) {n : ℕ} (is : n ≡ pair_making_refusal slack rate ceiling envelope first_sums second_sums) where
  pub not_made : (n ≡ 0 → ⊥) → restart_by (change.Refused n) (new_pair 8000 1) envelope first_sums second_sums ≡ pair_made slack rate ceiling envelope first_sums second_sums
  unfolding pair_made
  not_made h = rw (← is) (sym (if_refused_refused n _ _ h))

  pub is_made : n ≡ 0 → restart_by change.Done (new_pair rate ceiling) (zeros (length envelope)) (zeros (length first_sums)) (zeros (length second_sums)) ≡ pair_made slack rate ceiling envelope first_sums second_sums
  unfolding pair_made pair_making_refusal
  is_made z =
      let a = passed (in_table rate ceiling) 0 _ (sym is ∙ z) in
      let b = passed (both_lengths slack (geometry_of rate ceiling) envelope first_sums second_sums) 1 _ a.1 in
      cleared_by slack (geometry_of rate ceiling) (new_pair rate ceiling) envelope first_sums second_sums b.0 ∙ sym (if_refused_none _ _ _ (sym is ∙ z))

module _ (slack : ℕ) (p : Pair) (envelope first_sums second_sums : List Float) {n : ℕ} (is : n ≡ pair_reset_refusal slack p envelope first_sums second_sums) where
  pub not_reset : (n ≡ 0 → ⊥) → restart_by (change.Refused n) p envelope first_sums second_sums ≡ pair_reset slack p envelope first_sums second_sums
  unfolding pair_reset
  not_reset h = rw (← is) (sym (if_refused_refused n _ _ h))

  pub is_reset : n ≡ 0 → restart_by change.Done (restarted p.geometry) (zeros (length envelope)) (zeros (length first_sums)) (zeros (length second_sums)) ≡ pair_reset slack p envelope first_sums second_sums
  unfolding pair_reset pair_reset_refusal
  is_reset z =
      let a = first_passed (as_scan p p.first) _ (passed_both _ _ (sym is ∙ z)).0 in
      let g : p.geometry ≡ due (common p) = follows_by (as_scan p p.first) a.rules in
      cleared_by slack p.geometry (restarted p.geometry) envelope first_sums second_sums (ap (λ (h : Geometry). both_lengths slack h envelope first_sums second_sums) g ∙ a.lengths) ∙ sym (if_refused_none _ _ _ (sym is ∙ z))
