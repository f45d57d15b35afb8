-- Request h: what a frame reports, and that it is never more than (span + 1) x frame.
use Prim.Native.Nat.{ℕ, zero, suc, ◌*◌, ◌≤◌}
use mathlib.Core.Path.{◌≡◌, refl, sym, ap, ◌∙◌, subst}
use mathlib.Core.Bool.{Bool, true, false, not}
use mathlib.Core.List.{List}
use native.Mathlib.Nat.{mul-le-mul_left, mul_comm}
use native.Mathlib.Omega.{arith}
use lib.ListN.{length}
use lib.Ieee.{Float, le}
use Rattle.answers.specs.Pick.{pick, pick_all}
use Rattle.scan.specs.Bins.{lags}
use Rattle.scan.specs.State.{World}
use Rattle.scan.specs.Scoring.{energy_floor, quiet, flat, segment_energy, score_at, live, live_lags, products, most_products}
use Rattle.scan.specs.Calls.{Observation, frame_of, window_in, is_uncovered, is_ahead, score_refusal, counted_frame, judged, scored_frame, observed}
use Rattle.scan.specs.Banked.{counts, products_in}
use Rattle.scan.specs.Steps.{called}
use Rattle.scan.specs.Work.{Formed, reports_products, ReportsWork, ProductsAtMost}
use Rattle.scan.specs.declared.Geometry.{Geometry}
use Rattle.scan.proofs.Laws.{if_refused_none}
use Rattle.scan.proofs.Numbered.{score_number}
use Rattle.scan.proofs.Banked.{count_case}

-- ---- one lag, and so many

pick_not : {A : Type 0} (t : Bool) (x y : A) → pick t y x ≡ pick (not t) x y
unfolding pick
pick_not true x y = refl
pick_not false x y = refl

pub formed : Formed
unfolding score_at live
formed levels window k = pick_not (le (segment_energy window (length levels) k) energy_floor) _ _

at_most_one : (t : Bool) → pick t 1 0 ≤ 1
at_most_one t = pick_all (λ (n : ℕ). n ≤ 1) t 1 0 (omega arith) (omega arith)

pub lags_at_most : (window : List Float) (frame n : ℕ) → live_lags window frame n ≤ n
unfolding live_lags
lags_at_most window frame zero = omega arith
lags_at_most window frame (suc n) = omega (arith, lags_at_most window frame n, at_most_one (live window frame n))

frame_at_most : (g : Geometry) (levels window : List Float) → products g levels window ≤ most_products g
unfolding products
frame_at_most g levels window = subst (λ (n : ℕ). g.frame * live_lags window (length levels) (lags g) ≤ n) (mul_comm g.frame (lags g)) (mul-le-mul_left g.frame (lags_at_most window (length levels) (lags g)))

-- ---- a call

pub products_at_most : ProductsAtMost
unfolding observed scored_frame judged counted_frame
products_at_most slack w =
    let P : Observation → Type 0 = λ o. reports_products o.scored.answer ≤ most_products w.scan.geometry in
    let none : 0 ≤ most_products w.scan.geometry = omega arith in
    pick_all P _ _ _
    (pick_all P _ _ _ none (pick_all P _ _ _ none (pick_all P _ _ _ none (pick_all P _ _ _ none (frame_at_most w.scan.geometry (frame_of w) (window_in slack w))))))
    none

scored_work : (slack : ℕ) (w : World) → reports_products (scored_frame slack w).scored.answer ≡ pick (counts slack w) (products_in slack w) 0
unfolding scored_frame judged counted_frame pick
scored_work slack w =
    count_case (λ (b : Bool) (o : Observation). reports_products o.scored.answer ≡ pick b (products_in slack w) 0) (is_uncovered slack w) (is_ahead w) (quiet (window_in slack w)) (flat (frame_of w)) _ _ _ _ _
    refl refl refl refl refl

pub reports_work : ReportsWork
unfolding called observed
reports_work slack w a =
    let e : observed slack w ≡ scored_frame slack w = if_refused_none (score_refusal slack w) _ _ (sym (score_number slack w).is ∙ a) in
    ap (λ (o : Observation). reports_products o.scored.answer) e ∙ scored_work slack w
