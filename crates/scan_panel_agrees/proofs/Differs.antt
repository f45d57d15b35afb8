-- A split is exactly where the answers differ: there the wide scan says anything but uncovered. And how late a frame may be scored without a parting.
use Prim.Native.Nat.{ℕ, ◌+◌, ◌≤◌, ◌<◌}
use mathlib.Core.Path.{◌≡◌, refl, sym, ap, ◌∙◌}
use mathlib.Core.List.{List, [], ◌∷◌}
use mathlib.Core.Bool.{Bool, true, false, true≢false}
use native.Mathlib.Omega.{arith}
use lib.Dec.{ltb, lit<}
use lib.Ieee.{Float}
use borrow.Author.Tests.{eqb-false}
use Rattle.answers.specs.Pick.{pick_case}
use Rattle.scan.specs.State.{World}
use Rattle.scan.specs.Scoring.{quiet, flat, scores_of, products, Ruling, ruling, decision}
use Rattle.scan.specs.Told.{frame_told}
use Rattle.scan.specs.Calls.{Observation, is_uncovered, is_ahead, score_refusal, counted_by, counted_frame, judged, scored_frame, observed}
use Rattle.scan.specs.Steps.{score, deed, called}
use Rattle.scan.specs.declared.Geometry.{Geometry}
use Rattle.scan.specs.declared.Frame.{Frame}
use Rattle.scan.specs.declared.Frame.TheVariants as frame
use Rattle.scan.specs.declared.Scoring.{Scoring}
use Rattle.scan.specs.declared.Scoring.TheVariants as scoring
use Rattle.scan.proofs.Laws.{if_refused_case}
use Rattle.scan_panel_agrees.specs.Agreement.{parting, splitting, Agree}
use Rattle.scan_panel_agrees.proofs.Own.{Own}
use Rattle.scan_panel_agrees.proofs.Partings.{parted, split, splittings}
use Rattle.scan_panel_agrees.proofs.Agrees.{uncovered_by}

-- the place of what is told among its cases
abbrev place : List ℕ → ℕ
place [] = 0
place (n ∷ values) = n

abbrev frame_number : Frame → ℕ
frame_number a = place (frame_told a)

-- the place of a frame answer, and 0 of a refusal
abbrev number_of : Scoring → ℕ
number_of (scoring.Refused n) = 0
number_of (scoring.Frame a products) = frame_number a

-- an answer that is not "uncovered", whose place is 1
record Sees (p : Observation) : Type 0 where
  other : number_of p.scored.answer ≡ 1 → ⊥

above : (n : ℕ) → 1 < n → n ≡ 1 → ⊥
above n l e = omega arith

-- a decision is none of the answers of steps 1 to 4
decides : (g : Geometry) (averages : List Float) → 1 < frame_number (decision g averages)
unfolding decision
decides g averages = pick_case P _ _ _ (λ t. lit< tt) (λ t. pick_case P _ _ _ (λ t. lit< tt) (λ t. pick_case P _ _ _ (λ t. lit< tt) (λ t. lit< tt)))
  where
    P : Frame → Type 0
    P a = 1 < frame_number a

-- from step 2 on no frame is uncovered
counts : (w : World) (levels window : List Float) → Sees (counted_frame w levels window)
unfolding counted_frame ruling
counts w levels window =
    pick_case (λ (r : Ruling). Sees (counted_by w window (scores_of w.scan.geometry levels window) r (products w.scan.geometry levels window))) (ltb (w.scan.verdict.banked + 1) 4) _ _ (λ t. record { other = eqb-false _ 1 refl })
    (λ t. record { other = above _ (decides w.scan.geometry _) })

sees : (slack : ℕ) (w : World) → is_uncovered slack w ≡ false → Sees (observed slack w)
unfolding observed scored_frame judged
sees slack w c =
    if_refused_case Sees (score_refusal slack w) _ _ (λ r. record { other = eqb-false _ 1 refl })
    (λ z. pick_case Sees (is_uncovered slack w) _ _ (λ u. absurd (true≢false (sym u ∙ c)))
    (λ u. pick_case Sees (is_ahead w) _ _ (λ t. record { other = eqb-false _ 1 refl })
    (λ t. pick_case Sees (quiet _) _ _ (λ q. record { other = eqb-false _ 1 refl }) (λ q. pick_case Sees (flat _) _ _ (λ f. record { other = eqb-false _ 1 refl }) (λ f. counts w _ _)))))

module _ (wide narrow : ℕ) (less : narrow < wide) (w v : World) (h : Agree wide narrow w v) (o : Own wide w) (o' : Own narrow v) where
  -- at a split the answers differ
  pub split_differs : splitting wide narrow w ≡ true → (called narrow v (deed score)).response ≡ (called wide w (deed score)).response → ⊥
  unfolding called
  split_differs p e =
      let u = uncovered_by wide narrow less w v h o o' (splitting wide narrow) (splittings wide narrow less) (deed score) p in
      let a : (observed wide w).scored.answer ≡ scoring.Frame frame.Uncovered 0 = cc in
      (sees wide w (split wide narrow w p).widely).other (ap number_of a)

-- a frame whose last bin is at most `narrow` bins behind the last bin written is no parting: so long the profile answers as the full scan
pub close_together : (wide narrow : ℕ) (w : World) → w.scan.far.next ≤ w.scan.near.first + w.scan.geometry.frame + narrow → parting wide narrow w ≡ false
close_together wide narrow w l = go (parting wide narrow w) refl
  where
    go : (b : Bool) → parting wide narrow w ≡ b → b ≡ false
    go true e = let p = parted wide narrow w e in absurd (omega (arith, p.early))
    go false e = refl
