-- What is known where a frame is not refused, and the refusals in their order.
use Prim.Native.Nat.{ℕ, ◌*◌, ◌^◌, ◌≤◌, ◌<◌}
use mathlib.Core.Path.{◌≡◌, sym, ap, ◌∙◌, subst}
use mathlib.Core.Bool.{Bool, true}
use mathlib.Core.List.{List}
use native.Mathlib.Nat.{le-mul_of_pos_right, mul-le-mul, lt_of_le_of_lt}
use native.Mathlib.Omega.{arith}
use lib.Dec.{eqb, ltb, leb}
use lib.ListN.{length, take}
use lib.Seq.{take_all}
use lib.Ieee.{Float}
use lib.Ieee.Scale.{finite}
use borrow.Author.Tests.{eqb-true, ltb-true, eq-eqb, ne_eqb}
use Rattle.answers.specs.Pick.{pick, both, either, pick_true, pick_false}
use Rattle.answers.proofs.Refusals.{passed, passed_both}
use Rattle.folds.specs.Sums.{all_finite}
use Rattle.scan.specs.Bins.{envelope_len, near_len, window_len, prefix_len, lags}
use Rattle.scan.specs.State.{Buffers, geometry_rule, far_rule, near_rule, verdict_rule, keeps_rules, first_refusals, full, due}
use Rattle.scan.specs.Scoring.{uncovered, ahead, window_of, live_lags}
use Rattle.scan.specs.Calls.{all_lengths, score_refusal}
use Rattle.scan.specs.declared.Geometry.{Geometry}
use Rattle.scan.specs.declared.Scan.{Scan}
use Rattle.scan_calls.specs.Bounds.{Bounds}
use Rattle.scan_decision.specs.Deciding.{Small}
use Rattle.scan.proofs.Work.{lags_at_most}
use Rattle.scan_calls.proofs.Chains.{first, second}
use Rattle.scan_calls.proofs.Passing.{Passed, pass}
use Rattle.scan_score.specs.Observing.{world, may_read, Sound, Fit, Ready}

-- ---- the lengths

-- of the envelope, and of the others
own_length : (slack : ℕ) (g : Geometry) (b : Buffers) → all_lengths slack g b ≡ true → length b.envelope ≡ envelope_len slack g
own_length slack g b t = eqb-true _ _ (first (eqb (length b.envelope) (envelope_len slack g)) _ t)

fitting : (slack : ℕ) (g : Geometry) (b : Buffers) → all_lengths slack g b ≡ true → Fit g b.levels b.window b.prefix b.squares b.scores b.lag_sums
fitting slack g b t =
    let t₁ = second (eqb (length b.envelope) (envelope_len slack g)) _ t in
    let t₂ = second (eqb (length b.levels) (near_len g)) _ t₁ in
    let t₃ = second (eqb (length b.window) (window_len g)) _ t₂ in
    let t₄ = second (eqb (length b.prefix) (prefix_len g)) _ t₃ in
    let t₅ = second (eqb (length b.squares) (prefix_len g)) _ t₄ in
    record {
      levels = eqb-true _ _ (first (eqb (length b.levels) (near_len g)) _ t₁);
      window = eqb-true _ _ (first (eqb (length b.window) (window_len g)) _ t₂);
      prefix = eqb-true _ _ (first (eqb (length b.prefix) (prefix_len g)) _ t₃);
      squares = eqb-true _ _ (first (eqb (length b.squares) (prefix_len g)) _ t₄);
      scores = eqb-true _ _ (first (eqb (length b.scores) (lags g)) _ t₅);
      lag_sums = eqb-true _ _ (second (eqb (length b.scores) (lags g)) _ t₅);
    }

-- ---- the state

below : (n d m : ℕ) → 1 ≤ d → n * d < m → n < m
below n d m h k = omega (arith, le-mul_of_pos_right n h)

first_bin_lem : (s : Scan) → 1 ≤ s.geometry.decimation → near_rule s.geometry s.near ≡ true → s.near.first < 2 ^ 62
unfolding near_rule
first_bin_lem s h t =
    let t₁ = second (ltb s.near.count s.geometry.decimation) _ t in
    let t₂ = second (either _ (eqb s.near.count 0)) _ t₁ in
    let t₃ = second (leb s.near.len s.geometry.frame) _ t₂ in
    below s.near.first s.geometry.decimation (2 ^ 62) h (ltb-true _ _ (first (ltb (s.near.first * s.geometry.decimation) (2 ^ 62)) _ (second (finite s.near.sum) _ t₃)))

few_banked : (s : Scan) → verdict_rule s.near s.verdict ≡ true → s.verdict.banked < 4
unfolding verdict_rule
few_banked s t = ltb-true _ _ (first (ltb s.verdict.banked 4) _ t)

module _ (slack : ℕ) (s : Scan) (b : Buffers) where
  lengths_fit : Passed s (all_lengths slack (due s) b) → all_lengths slack s.geometry b ≡ true
  lengths_fit ok = subst (λ (g : Geometry). all_lengths slack g b ≡ true) (sym ok.geometry) ok.fit

  pub sound : first_refusals s (all_lengths slack (due s) b) ≡ 0 → Sound slack s b.envelope
  unfolding keeps_rules
  sound z =
      let ok = pass s (all_lengths slack (due s) b) z in
      let r₁ = second (geometry_rule s) _ ok.rules in
      let r₂ = second (far_rule s.geometry s.far) _ r₁ in
      record {
        bounds = ok.bounds;
        envelope = own_length slack s.geometry b (lengths_fit ok);
        first = first_bin_lem s ok.bounds.some_decimation (first (near_rule s.geometry s.near) _ r₂);
        banked = few_banked s (second (near_rule s.geometry s.near) _ r₂);
      }

  pub fit : first_refusals s (all_lengths slack (due s) b) ≡ 0 → Fit s.geometry b.levels b.window b.prefix b.squares b.scores b.lag_sums
  fit z = fitting slack s.geometry b (lengths_fit (pass s (all_lengths slack (due s) b) z))

  pub ready : score_refusal slack (world s b) ≡ 0 → Ready slack s b
  unfolding score_refusal
  ready z =
      let one = passed_both (first_refusals s (all_lengths slack (due s) b)) _ z in
      let seven = passed (full s.geometry s.near) 6 _ one.1 in
      record { sound = sound one.0; fit = fit one.0; full = eqb-true _ _ seven.0 }

  -- ---- 1, 2, 3, then 7, then 4

  -- what the code's calls come to
  pub first_is : (g : Geometry) (lengths : Bool) (n : ℕ) → g ≡ due s → lengths ≡ all_lengths slack g b → n ≡ first_refusals s lengths → n ≡ first_refusals s (all_lengths slack (due s) b)
  first_is g lengths n e f h = h ∙ ap (first_refusals s) (f ∙ ap (λ (k : Geometry). all_lengths slack k b) e)

  module _ (n : ℕ) (is : n ≡ first_refusals s (all_lengths slack (due s) b)) where
    pub refuses_first : (n ≡ 0 → ⊥) → n ≡ score_refusal slack (world s b)
    unfolding score_refusal
    refuses_first h = is ∙ sym (pick_false _ _ _ (ne_eqb _ 0 (λ (z : first_refusals s (all_lengths slack (due s) b) ≡ 0). h (is ∙ z))))

    pub refuses_7 : n ≡ 0 → (s.near.len ≡ s.geometry.frame → ⊥) → 7 ≡ score_refusal slack (world s b)
    unfolding score_refusal
    refuses_7 h k = sym (pick_true _ _ _ (eq-eqb _ 0 (sym is ∙ h)) ∙ pick_false _ _ _ (ne_eqb s.near.len s.geometry.frame k))

    pub refuses_last : (a : Bool) → n ≡ 0 → s.near.len ≡ s.geometry.frame → a ≡ may_read slack s b.envelope b.levels b.lag_sums
        → pick a 0 4 ≡ score_refusal slack (world s b)
    unfolding score_refusal may_read
    refuses_last a h k e =
        let u = uncovered slack s.geometry s.far.next s.near.first in
        let v = ahead s.geometry s.far.next s.near.first in
        let w = window_of slack s.geometry s.far.next s.near.first b.envelope in
        let all : take s.near.len b.levels ≡ b.levels = take_all s.near.len b.levels (omega (arith, (fit (sym is ∙ h)).levels)) in
        ap (λ (z : Bool). pick z 0 4) e
        ∙ ap (λ (l : List Float). pick (either u (either v (both (all_finite l) (both (all_finite w) (all_finite b.lag_sums))))) 0 4) (sym all)
        ∙ sym (pick_true _ _ _ (eq-eqb _ 0 (sym is ∙ h)) ∙ pick_true _ _ _ (eq-eqb s.near.len s.geometry.frame k))

-- ---- the sizes that the decision asks for

pub small : (g : Geometry) → Bounds g → Small g
small g b = record { guarded = omega (arith, b.span, b.ceiling_guard); native = lt_of_le_of_lt (mul-le-mul b.span b.decimation) (omega arith) }

-- ---- the products fit

-- so many lags of so many bins
pub few : (g : Geometry) (window : List Float) (frame live n : ℕ) → Bounds g → live ≡ live_lags window frame n → n ≡ lags g → g.frame * live < 2 ^ 64
few g window frame live n b h e = lt_of_le_of_lt (mul-le-mul b.frame (let m : live ≤ 768001 = omega (arith, h, lags_at_most window frame n, e, b.span) in m)) (omega arith)
