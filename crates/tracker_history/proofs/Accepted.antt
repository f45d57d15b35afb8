-- Whether a history is accepted shows in its numbers: a tracker that accepted calls left keeps its state rules, so only the rate, an alignment or a delay can be refused.
use Prim.Native.Nat.{ℕ}
use mathlib.Core.Path.{◌≡◌, refl, ap, subst}
use mathlib.Core.Bool.{true}
use mathlib.Core.List.{[], ◌∷◌}
use mathlib.Core.Logic.{◌↔◌}
use lib.Dec.{ltb, eqb}
use borrow.Author.Tests.{eqb-true, eq-eqb}
use Rattle.answers.specs.declared.Change.TheVariants.{Done}
use Rattle.answers.specs.Numbers.{limit, allowed_rate}
use Rattle.answers.specs.Pick.{pick_true, pick_case}
use Rattle.answers.specs.Refusals.{none}
use Rattle.answers.proofs.Refusals.{passed, passed_both}
use Rattle.units.specs.declared.Samples.{Samples}
use Rattle.tracker.specs.declared.Outcome.{Outcome}
use Rattle.tracker.specs.declared.Tracker.{Tracker}
use Rattle.tracker.specs.declared.Changed.{Changed}
use Rattle.tracker.specs.declared.Cycled.{Cycled}
use Rattle.tracker.specs.Tracker.{state_refusal, changed, made, seamed}
use Rattle.tracker.specs.Cycle.{judged, delay_below_limit, cycle_refusal, cycled}
use Rattle.tracker.specs.Rules.{Sound}
use Rattle.tracker.proofs.Sound.{sound_accepted, made_sound, seamed_sound, cycled_sound}
use Rattle.tracker_history.specs.Histories.{cycle, discontinuity, History, tracker_after, IsRefused, Accepted, InRange}
use Rattle.tracker_history.specs.Sentences.{AcceptedReads}
use Rattle.tracker_history.proofs.Says.{clash, judged_says}

pub sound_after : (rate : ℕ) (h : History) → Sound (tracker_after rate h)
unfolding tracker_after
sound_after rate [] = made_sound rate
sound_after rate (cycle a o ∷ h) = cycled_sound (tracker_after rate h) a o (sound_after rate h)
sound_after rate (discontinuity ∷ h) = seamed_sound (tracker_after rate h) (sound_after rate h)

-- ---- a making, and a discontinuity

new_done : (rate : ℕ) → ((made rate).answer ≡ Done) ↔ (allowed_rate rate ≡ true)
unfolding made
new_done rate = (
  pick_case (λ (r : Changed). r.answer ≡ Done → allowed_rate rate ≡ true) (allowed_rate rate) _ _ (λ h e. h) (λ h e. clash (cc)),
  λ h. ap (λ (r : Changed). r.answer) (pick_true _ _ _ h),
)

seam_done : (t : Tracker) → Sound t → (seamed t).answer ≡ Done
unfolding changed
seam_done t s = ap (λ (r : Changed). r.answer) (pick_true _ _ _ (eq-eqb _ _ (sound_accepted t s)))

-- ---- a cycle

taken : (t : Tracker) (a : Samples) (o : Outcome) → (IsRefused (cycled t a o).verdict → ⊥) → cycle_refusal t a o ≡ none
unfolding cycled
taken t a o = pick_case (λ (r : Cycled). (IsRefused r.verdict → ⊥) → cycle_refusal t a o ≡ none) (eqb (cycle_refusal t a o) none) _ _ (λ e ok. eqb-true _ _ e) (λ e ok. absurd (ok (_, refl)))

judged_answers : (t : Tracker) (a : Samples) (o : Outcome) → IsRefused (judged t a o).verdict → ⊥
judged_answers t a o = judged_says (λ v. IsRefused v → ⊥) (λ r. let e = r.1 in clash (cc)) t a o (λ w r. let e = r.1 in clash (cc)) (λ to r. let e = r.1 in clash (cc))

untaken : (t : Tracker) (a : Samples) (o : Outcome) → cycle_refusal t a o ≡ none → IsRefused (cycled t a o).verdict → ⊥
unfolding cycled
untaken t a o e r = judged_answers t a o (subst (λ (q : Cycled). IsRefused q.verdict) (pick_true _ _ _ (eq-eqb _ _ e)) r)

module _ (t : Tracker) (s : Sound t) (a : Samples) (o : Outcome) where
  in_range_lem : cycle_refusal t a o ≡ none → (ltb a.0 limit ≡ true) × (delay_below_limit o ≡ true)
  unfolding cycle_refusal
  in_range_lem e =
      let x = passed_both (state_refusal t) _ e in
      let y = passed (ltb a.0 limit) 4 _ x.1 in
      (y.0, (passed (delay_below_limit o) 4 none y.1).0)

  unrefused : ltb a.0 limit ≡ true → delay_below_limit o ≡ true → cycle_refusal t a o ≡ none
  unfolding cycle_refusal
  unrefused p q = simp (pick_true, eq-eqb (state_refusal t) none (sound_accepted t s), p, q)

-- ---- every history

ranges : (rate : ℕ) (h : History) → Accepted rate h → (allowed_rate rate ≡ true) × InRange h
ranges rate [] ok = ((new_done rate).0 ok, record {})
ranges rate (cycle a o ∷ h) ok =
    let k = ranges rate h ok.1 in
    let x = in_range_lem (tracker_after rate h) (sound_after rate h) a o (taken (tracker_after rate h) a o ok.0) in
    (k.0, (x.0, x.1, k.1))
ranges rate (discontinuity ∷ h) ok = ranges rate h ok.1

accepts : (rate : ℕ) (h : History) → allowed_rate rate ≡ true → InRange h → Accepted rate h
accepts rate [] r i = (new_done rate).1 r
accepts rate (cycle a o ∷ h) r i =
    let t = tracker_after rate h in
    (untaken t a o (unrefused t (sound_after rate h) a o i.0 i.1), accepts rate h r i.2)
accepts rate (discontinuity ∷ h) r i = (seam_done (tracker_after rate h) (sound_after rate h), accepts rate h r i)

pub accepted_reads : AcceptedReads
accepted_reads rate h = (ranges rate h, λ p. accepts rate h p.0 p.1)
