-- The largest run on the record is the largest of the history: every tracker but a new one comes of `evidence`, which takes each cycle's own run in.
use Prim.Native.Nat.{ℕ, ◌≤◌, max}
use mathlib.Core.Path.{◌≡◌, refl, ap, ◌∙◌}
use mathlib.Core.Bool.{Bool}
use mathlib.Core.List.{[], ◌∷◌}
use native.Mathlib.Omega.{arith}
use lib.Dec.{ltb, eqb}
use borrow.Author.Tests.{eq-eqb}
use Rattle.answers.specs.declared.Count.TheVariants.{Is}
use Rattle.answers.specs.Answers.{counted}
use Rattle.answers.specs.Numbers.{limit, allowed_rate}
use Rattle.answers.specs.Pick.{pick_true, pick_all, pick_case}
use Rattle.answers.specs.Refusals.{none, inconsistent_record}
use Rattle.units.specs.declared.Samples.{Samples}
use Rattle.tracker.specs.declared.Outcome.{Outcome}
use Rattle.tracker.specs.declared.Outcome.TheVariants.{Candidate, Unconfident}
use Rattle.tracker.specs.declared.Tracker.{Tracker}
use Rattle.tracker.specs.declared.Changed.{Changed}
use Rattle.tracker.specs.declared.Cycled.{Cycled}
use Rattle.tracker.specs.Tracker.{state_refusal, changed, fresh, made, seamed, longest_run}
use Rattle.tracker.specs.Cycle.{unconfident_cycle, edge_cycle, escalated, outside_cycle, interior_cycle, judged, delay_below_limit, cycle_refusal, cycled}
use Rattle.tracker.specs.Told.{verdict_told}
use Rattle.tracker.proofs.Sound.{sound_accepted}
use Rattle.tracker.proofs.Laws.{refused_cycle}
use Rattle.tracker_history.specs.Histories.{cycle, discontinuity, History, tracker_after}
use Rattle.tracker_history.specs.Longest.{runs_in, largest_of, LargestIsLargest, SeamClears, NeverInconsistent}
use Rattle.tracker_history.proofs.Accepted.{sound_after}

-- ---- one call

-- a cycle takes its own run in
abbrev Grows : Tracker → Tracker → Type 0
Grows t next = next.largest ≡ max next.jumps t.largest

abbrev GrowsBy : Tracker → Cycled → Type 0
GrowsBy t r = Grows t r.tracker

module _ (t : Tracker) (s : t.jumps ≤ t.largest) where
  -- of a tracker whose delays and other runs were set before its contradiction run is
  escalated_grows : (u : Tracker) (c h : Bool) → u.largest ≡ t.largest → GrowsBy t (escalated u c h)
  unfolding escalated
  escalated_grows u c h e = pick_all (GrowsBy t) c _ _ (omega (arith, e)) (omega (arith, e))

  interior_grows : (a d : ℕ) → GrowsBy t (interior_cycle t a d)
  unfolding interior_cycle outside_cycle
  interior_grows a d =
      pick_all (GrowsBy t) _ _ _
      (pick_all (GrowsBy t) _ _ _ (omega arith) (escalated_grows _ _ _ (omega (arith, s))))
      (escalated_grows _ _ _ (omega (arith, s)))

  judged_grows : (a : Samples) (o : Outcome) → GrowsBy t (judged t a o)
  unfolding judged unconfident_cycle edge_cycle
  judged_grows a Unconfident = omega arith
  judged_grows a (Candidate d i) = pick_all (GrowsBy t) i _ _ (interior_grows a.0 d.0) (omega arith)

  -- a refused one changes nothing
  cycled_grows : (a : Samples) (o : Outcome) → GrowsBy t (cycled t a o)
  unfolding cycled
  cycled_grows a o = pick_all (GrowsBy t) (eqb (cycle_refusal t a o) none) _ _ (judged_grows a o) (omega (arith, s))

seamed_keeps : (t : Tracker) → (seamed t).tracker.largest ≡ t.largest
unfolding changed
seamed_keeps t = pick_all (λ (r : Changed). r.tracker.largest ≡ t.largest) (eqb (state_refusal t) none) _ _ (omega arith) refl

seamed_clears : (t : Tracker) → state_refusal t ≡ none → (seamed t).tracker.jumps ≡ 0
unfolding changed
seamed_clears t e = ap (λ (r : Changed). r.tracker.jumps) (pick_true _ _ _ (eq-eqb _ _ e))

made_none : (rate : ℕ) → (made rate).tracker.largest ≡ 0
unfolding made fresh
made_none rate = pick_all (λ (r : Changed). r.tracker.largest ≡ 0) (allowed_rate rate) _ _ refl refl

-- ---- every history

record_is : (rate : ℕ) (h : History) → (tracker_after rate h).largest ≡ largest_of (runs_in rate h)
unfolding tracker_after runs_in largest_of
record_is rate [] = made_none rate
record_is rate (cycle a o ∷ h) =
    cycled_grows (tracker_after rate h) (sound_after rate h).largest a o ∙ ap (max (cycled (tracker_after rate h) a o).tracker.jumps) (record_is rate h)
record_is rate (discontinuity ∷ h) = seamed_keeps (tracker_after rate h) ∙ record_is rate h

told_is : (t : Tracker) → state_refusal t ≡ none → longest_run t ≡ Is t.largest
unfolding counted
told_is t e = pick_true _ _ _ (eq-eqb _ _ e)

pub largest_is_largest : LargestIsLargest
largest_is_largest rate h ok =
    let t = tracker_after rate h in
    record {
      largest = record_is rate h;
      covers = (sound_after rate h).largest;
      told = told_is t (sound_accepted t (sound_after rate h)) ∙ ap Is (record_is rate h);
    }

pub seam_clears : SeamClears
unfolding tracker_after
seam_clears rate h ok =
    let t = tracker_after rate h in
    record { run = seamed_clears t (sound_accepted t (sound_after rate h)); largest = seamed_keeps t }

-- ---- no 9

not_nine : (t : Tracker) (a : Samples) (o : Outcome) → state_refusal t ≡ none → cycle_refusal t a o ≡ inconsistent_record → ⊥
unfolding cycle_refusal
not_nine t a o s =
    pick_case (λ (n : ℕ). n ≡ inconsistent_record → ⊥) (eqb (state_refusal t) none) _ _
    (λ h. pick_all (λ (n : ℕ). n ≡ inconsistent_record → ⊥) (ltb a.0 limit) _ _
    (pick_all (λ (n : ℕ). n ≡ inconsistent_record → ⊥) (delay_below_limit o) _ _ (λ e. omega (arith, e)) (λ e. omega (arith, e)))
    (λ e. omega (arith, e)))
    (λ h e. omega (arith, s, e))

pub never_inconsistent : NeverInconsistent
never_inconsistent rate h =
    let t = tracker_after rate h in
    let s = sound_accepted t (sound_after rate h) in
    record { state = s; cycles = λ a o e. not_nine t a o s (refused_cycle t a o inconsistent_record (ap verdict_told e)).0 }
