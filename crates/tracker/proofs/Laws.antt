-- The laws of a verdict: a refusal changes nothing, a move never lands past its candidate, and a verdict to reacquire leaves what its trigger says.
use Rattle.std.specs.Prelude.{Option, None, Some}
use Prim.Native.Nat.{ℕ, ◌≤◌, max}
use mathlib.Core.Path.{◌≡◌, refl, sym, subst, ◌∙◌}
use mathlib.Core.Bool.{Bool, true, false}
use native.Mathlib.Omega.{arith}
use lib.Dec.{ltb, leb, eqb}
use borrow.Author.Tests.{eqb-true}
use Rattle.answers.specs.Numbers.{next_count}
use Rattle.answers.specs.Pick.{pick, pick_true, pick_false, pick_all, pick_case}
use Rattle.answers.specs.Refusals.{none}
use Rattle.answers.specs.Told.{refused, change_told}
use Rattle.units.specs.declared.Samples.{Samples}
use Rattle.units.specs.Units.{samples}
use Rattle.tracker.specs.declared.Outcome.{Outcome}
use Rattle.tracker.specs.declared.Outcome.TheVariants.{Candidate, Unconfident}
use Rattle.tracker.specs.declared.Trigger.{Trigger}
use Rattle.tracker.specs.declared.Trigger.TheVariants.{Edge, Lost, Jump, Seam}
use Rattle.tracker.specs.declared.Verdict.{Verdict}
use Rattle.tracker.specs.declared.Verdict.TheVariants.{Hold, Move, Reacquire}
use Rattle.tracker.specs.declared.Tracker.{Tracker}
use Rattle.tracker.specs.declared.Changed.{Changed}
use Rattle.tracker.specs.declared.Cycled.{Cycled}
use Rattle.tracker.specs.Tracker.{state_refusal, changed, evidence, seamed}
use Rattle.tracker.specs.Cycle.{at_limit, unconfident_cycle, edge_cycle, outside_bands, confirmed, landing, with_jumps, escalated, outside_cycle, interior_cycle, judged, cycle_refusal, cycled}
use Rattle.tracker.specs.Told.{move_to, trigger_number, reacquire, verdict_told}
use Rattle.tracker.specs.Rules.{Moves, Unsure, Leaves}
use Rattle.tracker.proofs.Sound.{accepted_cycle}
use Rattle.tracker.proofs.Faithful.{trigger_told, no_hold}

-- what tells one number tells no other: told apart by `cc`
abbrev Clash : Type 0
Clash = ◌≡◌ {A = ℕ} 0 1

clash : {A : Type 0} → Clash → A
clash z = absurd (omega (arith, z))

-- ---- what a cycle may say

landing_early : (t : Tracker) (alignment delay : ℕ) → landing t alignment delay ≤ delay
unfolding landing
landing_early t alignment delay = pick_all (λ (n : ℕ). n ≤ delay) (ltb delay alignment) _ _ (omega arith) (omega arith)

-- what holds of `Hold`, of every `Reacquire`, and of a move to no later than an interior candidate, holds of the verdict of a cycle that is not refused
module _ (P : Verdict → Type 0) (holds : P Hold) (reacquires : (w : Trigger) → P (Reacquire w)) where
  limit_says : (run most : ℕ) (w : Trigger) → P (at_limit run most w)
  limit_says run most w = pick_all P (leb most run) _ _ (reacquires w) holds

  escalated_says : (t : Tracker) (c h : Bool) → P (escalated t c h).verdict
  unfolding escalated
  escalated_says t c h = pick_all (λ (r : Cycled). P r.verdict) c _ _ (limit_says (next_count t.jumps) 4 Jump) holds

  interior_says : (t : Tracker) (a d : ℕ) → ((to : ℕ) → to ≤ d → P (Move (samples to))) → P (interior_cycle t a d).verdict
  unfolding interior_cycle outside_cycle
  interior_says t a d moves =
      pick_all (λ (r : Cycled). P r.verdict) (outside_bands t a d) _ _
      (pick_all (λ (r : Cycled). P r.verdict) (confirmed t d) _ _ (moves (landing t a d) (landing_early t a d)) (escalated_says _ _ _))
      (escalated_says _ _ _)

  judged_says : (t : Tracker) (a : Samples) (o : Outcome) → ((d : Samples) (to : ℕ) → o ≡ Candidate d true → to ≤ d.0 → P (Move (samples to))) → P (judged t a o).verdict
  unfolding judged unconfident_cycle edge_cycle pick
  judged_says t a Unconfident moves = pick_all P t.suspect _ _ (limit_says (next_count t.unconfident) 4 Seam) (limit_says (next_count t.unconfident) 8 Lost)
  judged_says t a (Candidate d true) moves = interior_says t a.0 d.0 (λ to h. moves d to refl h)
  judged_says t a (Candidate d false) moves = limit_says (next_count t.edges) 3 Edge

-- a move comes of an interior candidate and never lands past it
pub moves : (t : Tracker) (a : Samples) (o : Outcome) (to : ℕ) → verdict_told (cycled t a o).verdict ≡ move_to to → Moves o to
unfolding cycled
moves t a o to =
    pick_all (λ (r : Cycled). verdict_told r.verdict ≡ move_to to → Moves o to) (eqb (cycle_refusal t a o) none) _ _
    (judged_says (λ (v : Verdict). verdict_told v ≡ move_to to → Moves o to) (λ e. clash (cc)) (λ w e. clash (cc)) t a o (λ d n i h e. let k : n ≡ to = cc in record { delay = d; interior = i; early = omega (arith, h, k) }))
    (λ e. clash (cc))

-- ---- refusals

-- a refused call hands back the tracker that it was given
pub refused_cycle : (t : Tracker) (a : Samples) (o : Outcome) (n : ℕ) → verdict_told (cycled t a o).verdict ≡ refused n → (cycle_refusal t a o ≡ n) × ((cycled t a o).tracker ≡ t)
unfolding cycled
refused_cycle t a o n =
    pick_all (λ (r : Cycled). verdict_told r.verdict ≡ refused n → (cycle_refusal t a o ≡ n) × (r.tracker ≡ t)) (eqb (cycle_refusal t a o) none) _ _
    (λ e. absurd (judged_says (λ (v : Verdict). verdict_told v ≡ refused n → ⊥) (λ e. clash (cc)) (λ w e. clash (cc)) t a o (λ d to i h e. clash (cc)) e))
    (λ e. (cc, refl))

pub refused_seam : (t : Tracker) (n : ℕ) → change_told (seamed t).answer ≡ refused n → (state_refusal t ≡ n) × ((seamed t).tracker ≡ t)
unfolding changed
refused_seam t n =
    pick_all (λ (r : Changed). change_told r.answer ≡ refused n → (state_refusal t ≡ n) × (r.tracker ≡ t)) (eqb (state_refusal t) none) _ _ (λ e. clash (cc)) (λ e. (cc, refl))

-- ---- verdicts to reacquire

-- a run at its limit names its own trigger
limit_tells : (run most : ℕ) (w v : Trigger) → verdict_told (at_limit run most w) ≡ reacquire v → w ≡ v
limit_tells run most w v =
    pick_all (λ (x : Verdict). verdict_told x ≡ reacquire v → w ≡ v) (leb most run) _ _
    (λ e. let h : trigger_number w ≡ trigger_number v = cc in trigger_told w v h)
    (λ e. absurd (no_hold v (sym e)))

-- only the contradiction run is at its limit, and only it has changed
abbrev Escalates : Trigger → Tracker → Cycled → Type 0
Escalates v next r = verdict_told r.verdict ≡ reacquire v → (Jump ≡ v) × (r.tracker ≡ next)

escalated_leaves : (v : Trigger) (t : Tracker) (c h : Bool) → Escalates v (with_jumps t (next_count t.jumps)) (escalated t c h)
unfolding escalated
escalated_leaves v t c h =
    pick_all (Escalates v (with_jumps t (next_count t.jumps))) c _ _ (λ e. (limit_tells (next_count t.jumps) 4 Jump v e, refl)) (λ e. absurd (no_hold v (sym e)))

-- a run that is set twice, first to what it is, leaves no other tracker than one that is set once
set_once : (t : Tracker) (p q : Option Samples) (e u : ℕ) (b : Bool) (run : ℕ) → t.jumps ≤ t.largest → with_jumps (evidence t p q e t.jumps u b) run ≡ evidence t p q e run u b
set_once t p q e u b run h = let k : max t.largest t.jumps ≡ t.largest = omega (arith, h) in rw k refl

outside_leaves : (v : Trigger) (t : Tracker) (a : ℕ) (d : Samples) → t.jumps ≤ t.largest → Escalates v (evidence t (Some d) (Some d) 0 (next_count t.jumps) 0 t.suspect) (outside_cycle t a d.0)
unfolding outside_cycle
outside_leaves v t a d h =
    pick_all (Escalates v (evidence t (Some d) (Some d) 0 (next_count t.jumps) 0 t.suspect)) (confirmed t d.0) _ _
    (λ e. clash (cc))
    (λ e. let k = escalated_leaves v _ _ _ e in (k.0, k.1 ∙ set_once t (Some d) (Some d) 0 0 t.suspect _ h))

abbrev after : Tracker → ℕ → Samples → Tracker
after t a d =
    pick (outside_bands t a d.0)
    (evidence t (Some d) (Some d) 0 (next_count t.jumps) 0 t.suspect)
    (evidence t None (Some d) 0 (next_count t.jumps) 0 false)

interior_leaves : (v : Trigger) (t : Tracker) (a : ℕ) (d : Samples) → t.jumps ≤ t.largest → Escalates v (after t a d) (interior_cycle t a d.0)
unfolding interior_cycle
interior_leaves v t a d l =
    pick_case (Escalates v (after t a d)) (outside_bands t a d.0) _ _
    (λ h e. let k = outside_leaves v t a d l e in (k.0, k.1 ∙ sym (pick_true _ _ _ h)))
    (λ h e. let k = escalated_leaves v _ _ _ e in (k.0, (k.1 ∙ set_once t None (Some d) 0 0 false _ l) ∙ sym (pick_false _ _ _ h)))

abbrev Reports : Trigger → Tracker → Samples → Outcome → Cycled → Type 0
Reports v t a o r = verdict_told r.verdict ≡ reacquire v → Leaves v t a o r.tracker

judged_leaves : (v : Trigger) (t : Tracker) (a : Samples) (o : Outcome) → t.jumps ≤ t.largest → Reports v t a o (judged t a o)
unfolding judged unconfident_cycle edge_cycle pick
judged_leaves v t a Unconfident l e =
    let counted : Unsure t Unconfident (unconfident_cycle t).tracker = record { unconfident = refl; leaves = refl } in
    let left : Trigger → Type 0 = λ w. Leaves w t a Unconfident (unconfident_cycle t).tracker in
    pick_case (λ (x : Verdict). verdict_told x ≡ reacquire v → left v) t.suspect _ _
    (λ h e. subst left (limit_tells (next_count t.unconfident) 4 Seam v e) (h, counted))
    (λ h e. subst left (limit_tells (next_count t.unconfident) 8 Lost v e) (h, counted))
    e
judged_leaves v t a (Candidate d true) l e =
    let k = interior_leaves v t a.0 d l e in
    subst (λ (w : Trigger). Leaves w t a (Candidate d true) (interior_cycle t a.0 d.0).tracker) k.0 (record { delay = d; interior = refl; leaves = k.1 })
judged_leaves v t a (Candidate d false) l e =
    subst (λ (w : Trigger). Leaves w t a (Candidate d false) (edge_cycle t).tracker) (limit_tells (next_count t.edges) 3 Edge v e) (record { delay = d; edge = refl; leaves = refl })

-- a verdict to reacquire leaves what its trigger says, and so nothing more is changed
pub reacquires : (v : Trigger) (t : Tracker) (a : Samples) (o : Outcome) → verdict_told (cycled t a o).verdict ≡ reacquire v → Leaves v t a o (cycled t a o).tracker
unfolding cycled
reacquires v t a o =
    pick_case (Reports v t a o) (eqb (cycle_refusal t a o) none) _ _ (λ h. judged_leaves v t a o (accepted_cycle t a o (eqb-true _ _ h)).largest) (λ h e. clash (cc))
