-- The four verdicts, both directions each: a verdict is read off the tracker's fields, and these follow the history.
use Rattle.std.specs.Prelude.{None}
use Prim.Native.Nat.{ℕ, ◌+◌, ◌≤◌}
use mathlib.Core.Path.{◌≡◌, refl, sym, ap, subst, ◌∙◌}
use mathlib.Core.Logic.{◌↔◌}
use mathlib.Core.Bool.{Bool, true, false, true≢false, false≢true}
use mathlib.Core.List.{◌∷◌}
use native.Mathlib.Omega.{arith}
use lib.Dec.{leb}
use borrow.Author.Tests.{leb-true, leb-false, le-leb, lt-leb}
use Rattle.answers.specs.Numbers.{next_count}
use Rattle.answers.specs.Pick.{pick, both, pick_true, pick_all, pick_case}
use Rattle.answers.proofs.Passed.{both_true}
use Rattle.units.specs.declared.Samples.{Samples}
use Rattle.tracker.specs.declared.Outcome.{Outcome}
use Rattle.tracker.specs.declared.Outcome.TheVariants.{Candidate, Unconfident}
use Rattle.tracker.specs.declared.Trigger.{Trigger}
use Rattle.tracker.specs.declared.Trigger.TheVariants.{Edge, Lost, Jump, Seam}
use Rattle.tracker.specs.declared.Verdict.{Verdict}
use Rattle.tracker.specs.declared.Verdict.TheVariants.{Move, Reacquire}
use Rattle.tracker.specs.declared.Tracker.{Tracker}
use Rattle.tracker.specs.declared.Cycled.{Cycled}
use Rattle.tracker.specs.Cycle.{at_limit, unconfident_cycle, edge_cycle, outside_bands, confirmed, escalated, outside_cycle, interior_cycle, judged, cycled}
use Rattle.tracker.specs.Told.{verdict_told}
use Rattle.tracker.proofs.Laws as laws
use Rattle.tracker_history.specs.Histories.{cycle, History, unconfident_run, edges_since, moves, suspicion, tracker_after}
use Rattle.tracker_history.specs.Sentences.{IsMove, Exactly, LostWhen, LostExactly, SeamWhen, SeamExactly, EdgeWhen, EdgeExactly, MoveExactly, MoveLeaves}
use Rattle.tracker_history.proofs.Follows.{accepted_cycle, capped, capped_next, Follows, outside_same, agrees_same, follows}
use Rattle.tracker_history.proofs.Says.{clash, limit_says, unconfident_says, edge_says, escalated_says, interior_says}

-- ---- a run at its limit

-- a count that stops at 2^32 - 1 reaches a limit of 8 or less exactly when the run does
limit_capped : (n m most : ℕ) → m ≡ capped n → most ≤ 8 → leb most m ≡ leb most n
limit_capped n m most e small =
    pick_case (λ (b : Bool). leb most m ≡ b) (leb most n) true false (λ h. le-leb most m (omega (arith, leb-true most n h))) (λ h. lt-leb most m (omega (arith, leb-false most n h)))
    ∙ pick_case (λ (b : Bool). b ≡ leb most n) (leb most n) true false sym sym

fires : (run most : ℕ) (w : Trigger) → (at_limit run most w ≡ Reacquire w) ↔ (most ≤ run)
fires run most w = (
  pick_case (λ (v : Verdict). v ≡ Reacquire w → most ≤ run) (leb most run) _ _ (λ h e. leb-true most run h) (λ h e. clash (cc)),
  λ le. pick_true _ _ _ (le-leb most run le),
)

-- and it names no other trigger
fires_own : (run most : ℕ) (w v : Trigger) → at_limit run most w ≡ Reacquire v → w ≡ v
fires_own run most w v = limit_says (λ x. x ≡ Reacquire v → w ≡ v) (λ e. clash (cc)) run most w (λ e. cc)

-- ---- the verdict by the words

module _ (rate : ℕ) (h : History) (t : Tracker) (f : Follows rate h t) (a : Samples) where
  unconfident_words : (unconfident_cycle t).verdict ≡ pick (suspicion rate h) (at_limit (unconfident_run (cycle a Unconfident ∷ h)) 4 Seam) (at_limit (unconfident_run (cycle a Unconfident ∷ h)) 8 Lost)
  unfolding unconfident_cycle unconfident_run
  unconfident_words =
      let e = capped_next (unconfident_run h) t.unconfident f.unconfident in
      rw (f.suspect, limit_capped (unconfident_run h + 1) (next_count t.unconfident) 4 e (omega arith), limit_capped (unconfident_run h + 1) (next_count t.unconfident) 8 e (omega arith))

  edge_words : (d : Samples) → (edge_cycle t).verdict ≡ at_limit (edges_since (cycle a (Candidate d false) ∷ h)) 3 Edge
  unfolding edge_cycle edges_since
  edge_words d = rw (limit_capped (edges_since h + 1) (next_count t.edges) 3 (capped_next (edges_since h) t.edges f.edges) (omega arith))

-- ---- verdicts that a sort of cycle cannot have

-- an edge candidate names no trigger but its own
edge_own : (w : Trigger) (t : Tracker) → (edge_cycle t).verdict ≡ Reacquire w → Edge ≡ w
edge_own w t = edge_says (λ v. v ≡ Reacquire w → Edge ≡ w) (λ e. clash (cc)) t (λ e. cc)

interior_own : (w : Trigger) (t : Tracker) (a d : ℕ) → (interior_cycle t a d).verdict ≡ Reacquire w → Jump ≡ w
interior_own w t a d = interior_says (λ v. v ≡ Reacquire w → Jump ≡ w) (λ e. clash (cc)) t a d (λ e. cc) (λ to e. clash (cc))

unconfident_no_edge : (t : Tracker) → (unconfident_cycle t).verdict ≡ Reacquire Edge → ⊥
unconfident_no_edge t = unconfident_says (λ v. v ≡ Reacquire Edge → ⊥) (λ e. clash (cc)) t (λ e. clash (cc)) (λ e. clash (cc))

abbrev NoMove : Verdict → Type 0
NoMove v = IsMove v → ⊥

reacquire_no_move : (w : Trigger) → NoMove (Reacquire w)
reacquire_no_move w m = let e = m.1 in clash (cc)

unconfident_no_move : (t : Tracker) → NoMove (unconfident_cycle t).verdict
unconfident_no_move t = unconfident_says NoMove (λ m. let e = m.1 in clash (cc)) t (reacquire_no_move Seam) (reacquire_no_move Lost)

edge_no_move : (t : Tracker) → NoMove (edge_cycle t).verdict
edge_no_move t = edge_says NoMove (λ m. let e = m.1 in clash (cc)) t (reacquire_no_move Edge)

escalated_no_move : (t : Tracker) (c had : Bool) → NoMove (escalated t c had).verdict
escalated_no_move t c had = escalated_says NoMove (λ m. let e = m.1 in clash (cc)) t c had (reacquire_no_move Jump)

-- ---- an interior candidate that confirms moves, and leaves nothing pending and a contradiction run of 0

interior_moves : (t : Tracker) (a d : ℕ) → IsMove (interior_cycle t a d).verdict ↔ (both (outside_bands t a d) (confirmed t d) ≡ true)
unfolding interior_cycle outside_cycle
interior_moves t a d =
    let Q : Cycled → Type 0 = λ r. IsMove r.verdict → both (outside_bands t a d) (confirmed t d) ≡ true in (
      pick_case Q (outside_bands t a d) _ _
          (λ o. pick_case Q (confirmed t d) _ _ (λ c m. pick_true _ _ _ o ∙ c) (λ c m. absurd (escalated_no_move _ _ _ m)))
          (λ o m. absurd (escalated_no_move _ _ _ m)),
      λ e. let o = both_true _ _ e in (_, ap (λ (r : Cycled). r.verdict) (pick_true _ _ _ o.0 ∙ pick_true _ _ _ o.1)),
    )

abbrev Cleared : Tracker → Type 0
Cleared t = (t.pending ≡ None) × (t.jumps ≡ 0)

interior_clears : (t : Tracker) (a d : ℕ) → IsMove (interior_cycle t a d).verdict → Cleared (interior_cycle t a d).tracker
unfolding interior_cycle outside_cycle
interior_clears t a d =
    let Q : Cycled → Type 0 = λ r. IsMove r.verdict → Cleared r.tracker in
    pick_all Q (outside_bands t a d) _ _
    (pick_all Q (confirmed t d) _ _ (λ m. (refl, refl)) (λ m. absurd (escalated_no_move _ _ _ m)))
    (λ m. absurd (escalated_no_move _ _ _ m))

judged_clears : (t : Tracker) (a : Samples) (o : Outcome) → IsMove (judged t a o).verdict → Cleared (judged t a o).tracker
unfolding judged pick
judged_clears t a Unconfident m = absurd (unconfident_no_move t m)
judged_clears t a (Candidate d true) m = interior_clears t a.0 d.0 m
judged_clears t a (Candidate d false) m = absurd (edge_no_move t m)

-- ---- the four, of a tracker that follows its history

-- suspicion decides which of the two an unconfident cycle can say
lost_by : (s : Bool) (run : ℕ) → (pick s (at_limit run 4 Seam) (at_limit run 8 Lost) ≡ Reacquire Lost) ↔ ((8 ≤ run) × (s ≡ false))
unfolding pick
lost_by true run = ((λ e. let z = fires_own run 4 Seam Lost e in clash (cc)), λ p. absurd (true≢false p.1))
lost_by false run = ((λ e. ((fires run 8 Lost).0 e, refl)), λ p. (fires run 8 Lost).1 p.0)

seam_by : (s : Bool) (run : ℕ) → (pick s (at_limit run 4 Seam) (at_limit run 8 Lost) ≡ Reacquire Seam) ↔ ((4 ≤ run) × (s ≡ true))
unfolding pick
seam_by true run = ((λ e. ((fires run 4 Seam).0 e, refl)), λ p. (fires run 4 Seam).1 p.0)
seam_by false run = ((λ e. let z = fires_own run 8 Lost Seam e in clash (cc)), λ p. absurd (false≢true p.1))

module _ (rate : ℕ) (h : History) (t : Tracker) (f : Follows rate h t) (a : Samples) where
  -- the two verdicts of an unconfident cycle, by the limit and the suspicion of each; no candidate has either
  judged_unsure : (w : Trigger) (least : ℕ) (on : Bool) → 1 ≤ least → (Jump ≡ w → ⊥) → (Edge ≡ w → ⊥)
      → ((run : ℕ) → (pick (suspicion rate h) (at_limit run 4 Seam) (at_limit run 8 Lost) ≡ Reacquire w) ↔ ((least ≤ run) × (suspicion rate h ≡ on)))
      → (o : Outcome) → ((judged t a o).verdict ≡ Reacquire w) ↔ ((least ≤ unconfident_run (cycle a o ∷ h)) × (suspicion rate h ≡ on))
  unfolding judged pick unconfident_run
  judged_unsure w least on some no_jump no_edge by Unconfident = rw (unconfident_words rate h t f a) (by (unconfident_run (cycle a Unconfident ∷ h)))
  judged_unsure w least on some no_jump no_edge by (Candidate d true) = ((λ e. absurd (no_jump (interior_own w t a.0 d.0 e))), λ p. absurd (omega (arith, some, p.0)))
  judged_unsure w least on some no_jump no_edge by (Candidate d false) = ((λ e. absurd (no_edge (edge_own w t e))), λ p. absurd (omega (arith, some, p.0)))

  judged_lost : (o : Outcome) → ((judged t a o).verdict ≡ Reacquire Lost) ↔ LostWhen rate h a o
  judged_lost =
      judged_unsure Lost _ _ (omega arith) (λ z. clash (cc)) (λ z. clash (cc))
      (λ run. let by = lost_by (suspicion rate h) run in ((λ e. let p = by.0 e in (omega (arith, p.0), p.1)), λ p. by.1 (omega (arith, p.0), p.1)))

  judged_seam : (o : Outcome) → ((judged t a o).verdict ≡ Reacquire Seam) ↔ SeamWhen rate h a o
  judged_seam =
      judged_unsure Seam _ _ (omega arith) (λ z. clash (cc)) (λ z. clash (cc))
      (λ run. let by = seam_by (suspicion rate h) run in ((λ e. let p = by.0 e in (omega (arith, p.0), p.1)), λ p. by.1 (omega (arith, p.0), p.1)))

  judged_edge : (o : Outcome) → ((judged t a o).verdict ≡ Reacquire Edge) ↔ EdgeWhen rate h a o
  unfolding judged pick
  judged_edge Unconfident = ((λ e. absurd (unconfident_no_edge t e)), λ p. absurd (false≢true p.0))
  judged_edge (Candidate d true) = ((λ e. let z = interior_own Edge t a.0 d.0 e in clash (cc)), λ p. absurd (false≢true p.0))
  judged_edge (Candidate d false) =
      let run = edges_since (cycle a (Candidate d false) ∷ h) in
      ((λ e. let n = (fires run 3 Edge).0 (sym (edge_words rate h t f a d) ∙ e) in (refl, omega (arith, n))), λ p. edge_words rate h t f a d ∙ (fires run 3 Edge).1 (omega (arith, p.1)))

  judged_move : (o : Outcome) → IsMove (judged t a o).verdict ↔ (moves rate h a o ≡ true)
  unfolding judged pick moves
  judged_move Unconfident = ((λ m. absurd (unconfident_no_move t m)), λ e. absurd (false≢true e))
  judged_move (Candidate d true) = rw (← outside_same rate h t f a d, ← agrees_same rate h t f d) (interior_moves t a.0 d.0)
  judged_move (Candidate d false) = ((λ m. absurd (edge_no_move t m)), λ e. absurd (false≢true e))

-- ---- the four, of every accepted history

-- an accepted cycle is judged, by a tracker that follows the history before it
exactly : (says : Verdict → Type 0) (when : ℕ → History → Samples → Outcome → Type 0)
    → ((rate : ℕ) (h : History) (t : Tracker) → Follows rate h t → (a : Samples) (o : Outcome) → says (judged t a o).verdict ↔ when rate h a o) → Exactly says when
exactly says when judges rate h a o ok =
    let t = tracker_after rate h in
    subst (λ (r : Cycled). says r.verdict ↔ when rate h a o) (sym (accepted_cycle t a o ok.0)) (judges rate h t (follows rate h ok.1) a o)

pub lost : LostExactly
lost = exactly (λ v. v ≡ Reacquire Lost) LostWhen judged_lost

pub seam : SeamExactly
seam = exactly (λ v. v ≡ Reacquire Seam) SeamWhen judged_seam

pub edge : EdgeExactly
edge = exactly (λ v. v ≡ Reacquire Edge) EdgeWhen judged_edge

pub move : MoveExactly
move = exactly IsMove _ judged_move

-- a move never lands past its candidate: the tracker's own law
lands_early : (t : Tracker) (a : Samples) (o : Outcome) (to : Samples) → (cycled t a o).verdict ≡ Move to → (d : Samples) → o ≡ Candidate d true → to.0 ≤ d.0
lands_early t a o to e d i =
    let m = laws.moves t a o to.0 (ap verdict_told e) in
    let same : m.delay.0 ≡ d.0 = cc in
    omega (arith, m.early, same)

pub move_leaves : MoveLeaves
unfolding tracker_after
move_leaves rate h a o ok to e =
    let t = tracker_after rate h in
    let is = accepted_cycle t a o ok.0 in
    let cleared = judged_clears t a o (to, sym (ap (λ (r : Cycled). r.verdict) is) ∙ e) in
    record { pending = ap (λ (r : Cycled). r.tracker.pending) is ∙ cleared.0; run = ap (λ (r : Cycled). r.tracker.jumps) is ∙ cleared.1; early = lands_early t a o to e }
