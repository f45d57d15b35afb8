-- The theorems speak of the code: let each call be handed the tracker that the last one returned, and let it return whatever its contract admits; then that is the tracker
-- after the history of the accepted calls. A refused call is no part of the history, since it changes nothing.
use Prim.Native.Nat.{ℕ}
use mathlib.Core.Path.{◌≡◌, refl, sym, ap, subst, ◌∙◌}
use mathlib.Core.List.{[], ◌∷◌}
use contract.Lifetimes.{Lfts}
use denote.Triple.Clauses.{AtExit}
use borrow.Fn.Kinds.{ended_of}
use Rattle.answers.specs.declared.Change.TheVariants as change
use Rattle.answers.specs.declared.Count.{Count}
use Rattle.answers.specs.declared.Count.TheVariants.{Is}
use Rattle.answers.specs.Told.{change_told}
use Rattle.units.specs.declared.Samples.{Samples}
use Rattle.tracker.specs.declared.Outcome.{Outcome}
use Rattle.tracker.specs.declared.Tracker.{Tracker}
use Rattle.tracker.specs.declared.Changed.{Changed}
use Rattle.tracker.specs.declared.Cycled.{Cycled}
use Rattle.tracker.specs.Tracker.{made, seamed, longest_run}
use Rattle.tracker.specs.Cycle.{cycled}
use Rattle.tracker.specs.Told.{verdict_told}
use Rattle.tracker.proofs.Laws.{refused_cycle, refused_seam}
use Rattle.tracker.proofs.Tracker.new.Kinds as new-kinds
use Rattle.tracker.proofs.Tracker.new.Reads as new-reads
use Rattle.tracker.proofs.Tracker.on_cycle.Kinds as on-cycle-kinds
use Rattle.tracker.proofs.Tracker.on_cycle.Reads as on-cycle-reads
use Rattle.tracker.proofs.Tracker.on_discontinuity.Kinds as on-discontinuity-kinds
use Rattle.tracker.proofs.Tracker.on_discontinuity.Reads as on-discontinuity-reads
use Rattle.tracker.proofs.Tracker.longest_run.Kinds as longest-run-kinds
use Rattle.tracker.proofs.Tracker.longest_run.Reads as longest-run-reads
use Rattle.tracker_history.specs.Histories.{cycle, discontinuity, History, tracker_after, IsRefused, Accepted}
use Rattle.tracker_history.specs.Sentences.{Explained}
use Rattle.tracker_history.specs.Longest.{runs_in, largest_of}
use Rattle.tracker_history.proofs.Longest.{largest_is_largest}
use Rattle.tracker_history.proofs.Explained.{explained}

-- ---- what the contracts admit

abbrev pub New : ℕ → Changed → Type 0
New rate r = (κs : Lfts 0) × (x : AtExit (ended_of 0 new-kinds.ps new-kinds.r) κs) × new-reads.Post κs (rate, record {}) r x

abbrev pub OnCycle : Tracker → Samples → Outcome → Cycled → Type 0
OnCycle t a o r = (κs : Lfts 0) × (x : AtExit (ended_of 0 on-cycle-kinds.ps on-cycle-kinds.r) κs) × on-cycle-reads.Post κs (t, (a, (o, record {}))) r x

abbrev pub OnDiscontinuity : Tracker → Changed → Type 0
OnDiscontinuity t r = (κs : Lfts 0) × (x : AtExit (ended_of 0 on-discontinuity-kinds.ps on-discontinuity-kinds.r) κs) × on-discontinuity-reads.Post κs (t, record {}) r x

abbrev pub LongestRun : Tracker → Count → Type 0
LongestRun t r = (κs : Lfts 0) × (x : AtExit (ended_of 0 longest-run-kinds.ps longest-run-kinds.r) κs) × longest-run-reads.Post κs (t, record {}) r x

-- ---- calls in turn

-- a tracker that the functions may have left when these were the accepted calls
pub data Left (rate : ℕ) : History → Tracker → Type 0 where
  after_new : (r : Changed) → New rate r → r.answer ≡ change.Done → Left rate [] r.tracker
  after_cycle : (h : History) (t : Tracker) → Left rate h t → (a : Samples) (o : Outcome) (r : Cycled) → OnCycle t a o r → (IsRefused r.verdict → ⊥) → Left rate (cycle a o ∷ h) r.tracker
  after_discontinuity : (h : History) (t : Tracker) → Left rate h t → (r : Changed) → OnDiscontinuity t r → r.answer ≡ change.Done → Left rate (discontinuity ∷ h) r.tracker
  after_refused_cycle : (h : History) (t : Tracker) → Left rate h t → (a : Samples) (o : Outcome) (r : Cycled) → OnCycle t a o r → IsRefused r.verdict → Left rate h r.tracker
  after_refused_discontinuity : (h : History) (t : Tracker) → Left rate h t → (r : Changed) → OnDiscontinuity t r → (n : ℕ) → r.answer ≡ change.Refused n → Left rate h r.tracker

-- ---- each of them is a step of `tracker_after`

refused_stays : (t : Tracker) (a : Samples) (o : Outcome) → IsRefused (cycled t a o).verdict → (cycled t a o).tracker ≡ t
refused_stays t a o refusal = (refused_cycle t a o refusal.0 (ap verdict_told refusal.1)).1

pub code_steps : (rate : ℕ) (h : History) (t : Tracker) → Left rate h t → Accepted rate h × (t ≡ tracker_after rate h)
unfolding tracker_after
code_steps rate h t (after_new r p d) = (rw (← p.2) d, ap (λ (q : Changed). q.tracker) p.2)
code_steps rate h t (after_cycle h' t' l a o r p ok) =
    let k = code_steps rate h' t' l in
    let is : r ≡ cycled (tracker_after rate h') a o = subst (λ (q : Tracker). r ≡ cycled q a o) k.1 p.2 in
    ((subst (λ (q : Cycled). IsRefused q.verdict → ⊥) is ok, k.0), ap (λ (q : Cycled). q.tracker) is)
code_steps rate h t (after_discontinuity h' t' l r p d) =
    let k = code_steps rate h' t' l in
    let is : r ≡ seamed (tracker_after rate h') = subst (λ (q : Tracker). r ≡ seamed q) k.1 p.2 in
    ((subst (λ (q : Changed). q.answer ≡ change.Done) is d, k.0), ap (λ (q : Changed). q.tracker) is)
code_steps rate h t (after_refused_cycle h' t' l a o r p refusal) =
    let k = code_steps rate h' t' l in
    (k.0, ap (λ (q : Cycled). q.tracker) p.2 ∙ (refused_stays t' a o (subst (λ (q : Cycled). IsRefused q.verdict) p.2 refusal) ∙ k.1))
code_steps rate h t (after_refused_discontinuity h' t' l r p n e) =
    let k = code_steps rate h' t' l in
    (k.0, ap (λ (q : Changed). q.tracker) p.2 ∙ ((refused_seam t' n (ap change_told (sym (ap (λ (q : Changed). q.answer) p.2) ∙ e))).1 ∙ k.1))

-- so the history of the accepted calls explains what `on_cycle` gives
pub code_explained : (rate : ℕ) (h : History) (t : Tracker) → Left rate h t → (a : Samples) (o : Outcome) (r : Cycled) → OnCycle t a o r → (IsRefused r.verdict → ⊥) → Explained rate h a o r
code_explained rate h t l a o r p ok =
    let k = code_steps rate h t l in
    let is : r ≡ cycled (tracker_after rate h) a o = subst (λ (q : Tracker). r ≡ cycled q a o) k.1 p.2 in
    subst (Explained rate h a o) (sym is) (explained rate h a o (subst (λ (q : Cycled). IsRefused q.verdict → ⊥) is ok, k.0))

-- and what `longest_run` gives
pub code_longest : (rate : ℕ) (h : History) (t : Tracker) → Left rate h t → (r : Count) → LongestRun t r → r ≡ Is (largest_of (runs_in rate h))
code_longest rate h t l r p = let k = code_steps rate h t l in p.2 ∙ (ap longest_run k.1 ∙ (largest_is_largest rate h k.0).told)

-- ---- and it is not empty: the contracts admit every accepted history

pub code_reaches : (rate : ℕ) (h : History) → Accepted rate h → Left rate h (tracker_after rate h)
unfolding tracker_after
code_reaches rate [] ok = after_new (made rate) (record {}, (rate, record {}), refl) ok
code_reaches rate (cycle a o ∷ h) ok = after_cycle h (tracker_after rate h) (code_reaches rate h ok.1) a o _ (record {}, (tracker_after rate h, (a, (o, record {}))), refl) ok.0
code_reaches rate (discontinuity ∷ h) ok = after_discontinuity h (tracker_after rate h) (code_reaches rate h ok.1) _ (record {}, (tracker_after rate h, record {}), refl) ok.0
