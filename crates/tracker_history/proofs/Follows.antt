-- The induction: after an accepted history the tracker's fields are the words on that history. The tracker's counts stop at 2^32 - 1 where the words count on; no limit of
-- 3, 4 or 8 can tell. A reacquire clears nothing, so no word asks whether there was one.
use Rattle.std.specs.Prelude.{Option, None, Some}
use Prim.Native.Nat.{ℕ, ◌+◌, ◌-◌, ◌^◌, min}
use mathlib.Core.Path.{◌≡◌, refl, sym, ◌∙◌}
use mathlib.Core.Bool.{Bool, true, false, not}
use mathlib.Core.List.{[], ◌∷◌}
use native.Mathlib.Omega.{arith}
use lib.Dec.{eqb}
use Rattle.answers.specs.declared.Change.TheVariants.{Done}
use Rattle.answers.specs.Numbers.{allowed_rate, next_count}
use Rattle.answers.specs.Pick.{pick, both, either, pick_all, pick_case}
use Rattle.answers.specs.Refusals.{none}
use Rattle.units.specs.declared.Samples.{Samples}
use Rattle.tracker.specs.declared.Outcome.{Outcome}
use Rattle.tracker.specs.declared.Outcome.TheVariants.{Candidate, Unconfident}
use Rattle.tracker.specs.declared.Tracker.{Tracker}
use Rattle.tracker.specs.declared.Changed.{Changed}
use Rattle.tracker.specs.declared.Cycled.{Cycled}
use Rattle.tracker.specs.Tracker.{bands_of, state_refusal, changed, fresh, made, evidence, seamed}
use Rattle.tracker.specs.Cycle.{unconfident_cycle, edge_cycle, outside_bands, confirmed, escalated, outside_cycle, interior_cycle, judged, cycle_refusal, cycled, with_jumps}
use Rattle.tracker_history.specs.Histories.{cycle, discontinuity, History, outside, agrees, unconfident_run, edges_since, pending_in, moves, inside, settles, suspicion, tracker_after, IsRefused, Accepted}

-- ---- what an accepted call leaves

pub new_tracker : (rate : ℕ) → (made rate).answer ≡ Done → (made rate).tracker ≡ fresh rate
unfolding made
new_tracker rate = pick_all (λ (r : Changed). r.answer ≡ Done → r.tracker ≡ fresh rate) (allowed_rate rate) _ _ (λ e. refl) (λ e. cc)

pub accepted_seam : (t : Tracker) → (seamed t).answer ≡ Done → (seamed t).tracker ≡ evidence t None None 0 0 0 true
unfolding changed
accepted_seam t =
    pick_all (λ (r : Changed). r.answer ≡ Done → r.tracker ≡ evidence t None None 0 0 0 true) (eqb (state_refusal t) none) _ _ (λ e. refl) (λ e. cc)

pub accepted_cycle : (t : Tracker) (a : Samples) (o : Outcome) → (IsRefused (cycled t a o).verdict → ⊥) → cycled t a o ≡ judged t a o
unfolding cycled
accepted_cycle t a o =
    pick_all (λ (r : Cycled). (IsRefused r.verdict → ⊥) → r ≡ judged t a o) (eqb (cycle_refusal t a o) none) _ _ (λ no. refl) (λ no. absurd (no (_, refl)))

-- ---- a tracker that follows a history

-- a count of 32 bits, which stops at its largest value
abbrev pub capped : ℕ → ℕ
capped n = min n (2 ^ 32 - 1)

pub record Follows (rate : ℕ) (h : History) (t : Tracker) : Type 0 where
  pub bands : t.bands ≡ bands_of rate
  pub pending : t.pending ≡ pending_in rate h
  pub suspect : t.suspect ≡ suspicion rate h
  pub edges : t.edges ≡ capped (edges_since h)
  pub unconfident : t.unconfident ≡ capped (unconfident_run h)

pub capped_next : (n m : ℕ) → m ≡ capped n → next_count m ≡ capped (n + 1)
capped_next n m e = omega (arith, e)

-- ---- the tracker's tests are those of the words

module _ (rate : ℕ) (h : History) (t : Tracker) (f : Follows rate h t) where
  pub outside_same : (a d : Samples) → outside_bands t a.0 d.0 ≡ outside rate a d
  unfolding outside_bands outside
  outside_same a d = rw f.bands

  pub agrees_same : (d : Samples) → confirmed t d.0 ≡ agrees rate (pending_in rate h) d
  unfolding confirmed agrees
  agrees_same d = rw (f.bands, f.pending)

-- ---- an interior candidate, by the two tests

module _ (rate : ℕ) (h : History) (a d : Samples) (o c : Bool) where
  pending_by : outside rate a d ≡ o → agrees rate (pending_in rate h) d ≡ c → pick (both o c) None (pick o (Some d) None) ≡ pending_in rate (cycle a (Candidate d true) ∷ h)
  unfolding pending_in
  pending_by p q = simp (p, q)

  suspicion_by : outside rate a d ≡ o → agrees rate (pending_in rate h) d ≡ c → pick (either (both o c) (not o)) false (suspicion rate h) ≡ suspicion rate (cycle a (Candidate d true) ∷ h)
  unfolding suspicion settles moves inside
  suspicion_by p q = simp (p, q)

-- whatever the contradiction run is: no word speaks of it
jumps_follow : (rate : ℕ) (h : History) (t : Tracker) (run : ℕ) → Follows rate h t → Follows rate h (with_jumps t run)
jumps_follow rate h t run f = record { bands = f.bands; pending = f.pending; suspect = f.suspect; edges = f.edges; unconfident = f.unconfident }

module _ (rate : ℕ) (h : History) (t : Tracker) (f : Follows rate h t) (a d : Samples) (p q : Option Samples) (s : Bool)
    (hp : p ≡ pending_in rate (cycle a (Candidate d true) ∷ h)) (hs : s ≡ suspicion rate (cycle a (Candidate d true) ∷ h)) where
  evidence_follows : (run : ℕ) → Follows rate (cycle a (Candidate d true) ∷ h) (evidence t p q 0 run 0 s)
  unfolding edges_since unconfident_run
  evidence_follows run = record { bands = f.bands; pending = hp; suspect = hs; edges = refl; unconfident = refl }

  escalated_follows : (run : ℕ) (c had : Bool) → Follows rate (cycle a (Candidate d true) ∷ h) (escalated (evidence t p q 0 run 0 s) c had).tracker
  unfolding escalated
  escalated_follows run c had = pick_all (λ (r : Cycled). Follows rate (cycle a (Candidate d true) ∷ h) r.tracker) c _ _ (jumps_follow _ _ _ _ (evidence_follows run)) (jumps_follow _ _ _ _ (evidence_follows run))

-- ---- one cycle

module _ (rate : ℕ) (h : History) (t : Tracker) (f : Follows rate h t) (a : Samples) where
  unconfident_follows : Follows rate (cycle a Unconfident ∷ h) (unconfident_cycle t).tracker
  unfolding unconfident_cycle pending_in suspicion settles moves inside edges_since unconfident_run pick
  unconfident_follows =
      record { bands = f.bands; pending = f.pending; suspect = f.suspect; edges = f.edges; unconfident = capped_next (unconfident_run h) t.unconfident f.unconfident }

  edge_follows : (d : Samples) → Follows rate (cycle a (Candidate d false) ∷ h) (edge_cycle t).tracker
  unfolding edge_cycle pending_in suspicion settles moves inside edges_since unconfident_run pick
  edge_follows d =
      record { bands = f.bands; pending = refl; suspect = f.suspect; edges = capped_next (edges_since h) t.edges f.edges; unconfident = refl }

  interior_follows : (d : Samples) → Follows rate (cycle a (Candidate d true) ∷ h) (interior_cycle t a.0 d.0).tracker
  unfolding interior_cycle outside_cycle pick
  interior_follows d =
      let after : Cycled → Type 0 = λ r. Follows rate (cycle a (Candidate d true) ∷ h) r.tracker in
      let is : (b : Bool) → outside_bands t a.0 d.0 ≡ b → outside rate a d ≡ b = λ b e. sym (outside_same rate h t f a d) ∙ e in
      let near : (b : Bool) → confirmed t d.0 ≡ b → agrees rate (pending_in rate h) d ≡ b = λ b e. sym (agrees_same rate h t f d) ∙ e in
      pick_case after (outside_bands t a.0 d.0) _ _
      (λ o. pick_case after (confirmed t d.0) _ _
      (λ c. evidence_follows rate h t f a d _ _ _ (pending_by rate h a d true true (is true o) (near true c)) (suspicion_by rate h a d true true (is true o) (near true c)) _)
      (λ c. escalated_follows rate h t f a d _ _ _ (pending_by rate h a d true false (is true o) (near false c)) (f.suspect ∙ suspicion_by rate h a d true false (is true o) (near false c)) _ _ _))
      (λ o. escalated_follows rate h t f a d _ _ _ (pending_by rate h a d false _ (is false o) refl) (suspicion_by rate h a d false _ (is false o) refl) _ _ _)

  judged_follows : (o : Outcome) → Follows rate (cycle a o ∷ h) (judged t a o).tracker
  unfolding judged pick
  judged_follows Unconfident = unconfident_follows
  judged_follows (Candidate d true) = interior_follows d
  judged_follows (Candidate d false) = edge_follows d

-- ---- a new tracker, and a discontinuity

fresh_follows : (rate : ℕ) → Follows rate [] (fresh rate)
unfolding fresh pending_in suspicion edges_since unconfident_run
fresh_follows rate = record { bands = refl; pending = refl; suspect = refl; edges = refl; unconfident = refl }

seam_follows : (rate : ℕ) (h : History) (t : Tracker) → Follows rate h t → Follows rate (discontinuity ∷ h) (evidence t None None 0 0 0 true)
unfolding pending_in suspicion edges_since unconfident_run
seam_follows rate h t f = record { bands = f.bands; pending = refl; suspect = refl; edges = refl; unconfident = refl }

-- ---- every history

pub follows : (rate : ℕ) (h : History) → Accepted rate h → Follows rate h (tracker_after rate h)
unfolding tracker_after
follows rate [] ok = rw (new_tracker rate ok, tracker_after) (fresh_follows rate)
follows rate (cycle a o ∷ h) ok = rw (tracker_after, accepted_cycle (tracker_after rate h) a o ok.0) (judged_follows rate h (tracker_after rate h) (follows rate h ok.1) a o)
follows rate (discontinuity ∷ h) ok = rw (accepted_seam (tracker_after rate h) ok.0, tracker_after) (seam_follows rate h (tracker_after rate h) (follows rate h ok.1))
