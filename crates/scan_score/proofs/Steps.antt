-- Steps 1 to 8: how the code's cases meet the definition's.
use Prim.Native.Nat.{ℕ, ◌*◌, ◌≤◌}
use mathlib.Core.Path.{◌≡◌, sym, ap, ◌∙◌}
use mathlib.Core.Bool.{Bool, true, false}
use mathlib.Core.List.{List}
use lib.ListN.{length}
use lib.Seq.{take_all}
use lib.Ieee.{Float, binary64, add}
use borrow.Author.Tests.{eq-eqb, ne_eqb}
use Rattle.answers.specs.Pick.{pick_true, pick_false}
use Rattle.folds.specs.Sums.{table, at, prefix_sums, prefix_squares}
use Rattle.folds.specs.Search.{search_down}
use Rattle.folds.specs.declared.Peak.{Peak}
use Rattle.scan.specs.Bins.{lags}
use Rattle.scan.specs.State.{Buffers}
use Rattle.scan.specs.Scoring.{uncovered, ahead, window_of, quiet, flat, score_at, scores_of, live_lags, products, add_scores, Ruling, ruling}
use Rattle.scan.specs.Calls.{Observation, counted_frame, judged, scored_frame, score_refusal, observed}
use Rattle.scan.specs.declared.Scan.{Scan}
use Rattle.scan.specs.declared.Scored.{Scored}
use Rattle.scan.specs.declared.Scoring.TheVariants as scoring
use Rattle.scan.specs.declared.Frame.TheVariants as frame
use Rattle.scan_decision.specs.declared.Ruled.{Ruled}
use Rattle.scan_decision.specs.Deciding.{ruled}
use Rattle.scan_score.specs.Observing.{lent, world, saw, ended}

-- ---- 5 to 8

-- a ruling, with the lists as they are then
abbrev ruled_by : Scan → List Float → List Float → List Float → List Float → List Float → List Float → ℕ → Ruling → Observation
ruled_by s e l w p q c n r = saw (ended s r.verdict r.answer n) (lent e l w p q c r.lag_sums)

pub counts : (s : Scan) (e l w₀ w p q c t p' q' c' t₁ t' : List Float) (k : Peak) (x : Ruled) (r : Scored) (live : ℕ)
    → length c ≡ lags s.geometry → length t ≡ lags s.geometry
    → p' ≡ prefix_sums w → q' ≡ prefix_squares w → c' ≡ table (score_at l w) (length c) → k ≡ search_down c'
    → t₁ ≡ table (λ j. add binary64 (at t j) (at c' j)) (length t)
    → ruled x t' ≡ ruling s.geometry s.verdict k.value t₁ → live ≡ live_lags w (length l) (length c) → r ≡ ended s x.verdict x.answer (s.geometry.frame * live)
    → saw r (lent e l w p' q' c' t') ≡ counted_frame (world s (lent e l w₀ p q c t)) l w
unfolding counted_frame scores_of add_scores products
counts s e l w₀ w p q c t p' q' c' t₁ t' k x r live lc lt hp hq hc hk ht hx hl hr =
    ap (λ (z : Scored). saw z (lent e l w p' q' c' t')) hr
    ∙ ap (ruled_by s e l w p' q' c' (s.geometry.frame * live)) hx
    ∙ rw (hp, hq, hk, ht, lt, hl, hc, lc)

-- ---- 3 and 4

module _ (s : Scan) (e l w₀ w p q c t : List Float) (a : Bool) (quiets : a ≡ quiet w) where
  pub is_quiet : (r : Scored) → a ≡ true → r ≡ ended s s.verdict frame.Quiet 0 → saw r (lent e l w p q c t) ≡ judged (world s (lent e l w₀ p q c t)) l w
  unfolding judged
  is_quiet r h x = ap (λ (z : Scored). saw z (lent e l w p q c t)) x ∙ sym (pick_true _ _ _ (sym quiets ∙ h))

  module _ (b : Bool) (flats : b ≡ flat l) where
    pub is_flat : (r : Scored) → a ≡ false → b ≡ true → r ≡ ended s s.verdict frame.Flat 0 → saw r (lent e l w p q c t) ≡ judged (world s (lent e l w₀ p q c t)) l w
    unfolding judged
    is_flat r h k x = ap (λ (z : Scored). saw z (lent e l w p q c t)) x ∙ sym (pick_false _ _ _ (sym quiets ∙ h) ∙ pick_true _ _ _ (sym flats ∙ k))

    pub is_counted_lem : a ≡ false → b ≡ false → counted_frame (world s (lent e l w₀ p q c t)) l w ≡ judged (world s (lent e l w₀ p q c t)) l w
    unfolding judged
    is_counted_lem h k = sym (pick_false _ _ _ (sym quiets ∙ h) ∙ pick_false _ _ _ (sym flats ∙ k))

-- ---- 1 and 2

module _ (slack : ℕ) (s : Scan) (e l w p q c t : List Float) (a : Bool) (uncovers : a ≡ uncovered slack s.geometry s.far.next s.near.first) where
  pub is_uncovered_lem : (r : Scored) → a ≡ true → r ≡ ended s s.verdict frame.Uncovered 0 → saw r (lent e l w p q c t) ≡ scored_frame slack (world s (lent e l w p q c t))
  unfolding scored_frame
  is_uncovered_lem r h x = ap (λ (z : Scored). saw z (lent e l w p q c t)) x ∙ sym (pick_true _ _ _ (sym uncovers ∙ h))

  module _ (b : Bool) (aheads : b ≡ ahead s.geometry s.far.next s.near.first) where
    pub is_ahead_lem : (r : Scored) → a ≡ false → b ≡ true → r ≡ ended s s.verdict frame.Ahead 0 → saw r (lent e l w p q c t) ≡ scored_frame slack (world s (lent e l w p q c t))
    unfolding scored_frame
    is_ahead_lem r h k x = ap (λ (z : Scored). saw z (lent e l w p q c t)) x ∙ sym (pick_false _ _ _ (sym uncovers ∙ h) ∙ pick_true _ _ _ (sym aheads ∙ k))

    pub is_judged : (w' : List Float) → a ≡ false → b ≡ false → length l ≤ s.near.len → w' ≡ window_of slack s.geometry s.far.next s.near.first e
        → judged (world s (lent e l w p q c t)) l w' ≡ scored_frame slack (world s (lent e l w p q c t))
    unfolding scored_frame
    is_judged w' h k o f =
        ap (judged (world s (lent e l w p q c t)) l) f
        ∙ ap (λ (y : List Float). judged (world s (lent e l w p q c t)) y (window_of slack s.geometry s.far.next s.near.first e)) (sym (take_all s.near.len l o))
        ∙ sym (pick_false _ _ _ (sym uncovers ∙ h) ∙ pick_false _ _ _ (sym aheads ∙ k))

-- ---- the refusal comes first

module _ (slack : ℕ) (s : Scan) (b : Buffers) (n : ℕ) (is : n ≡ score_refusal slack (world s b)) where
  pub is_refused_lem : (n ≡ 0 → ⊥) → saw (record { scan = s; answer = scoring.Refused n }) b ≡ observed slack (world s b)
  unfolding observed
  is_refused_lem h =
      ap (λ (m : ℕ). saw (record { scan = s; answer = scoring.Refused m }) b) is
      ∙ sym (pick_false _ _ _ (ne_eqb _ 0 (λ (z : score_refusal slack (world s b) ≡ 0). h (is ∙ z))))

  pub is_scored : n ≡ 0 → scored_frame slack (world s b) ≡ observed slack (world s b)
  unfolding observed
  is_scored h = sym (pick_true _ _ _ (eq-eqb _ 0 (sym is ∙ h)))
