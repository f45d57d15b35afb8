-- A tracker that keeps the rules keeps them through every call.
use Rattle.std.specs.Prelude.{Option, None}
use Prim.Native.Nat.{ℕ}
use mathlib.Core.Path.{◌≡◌, refl}
use mathlib.Core.Bool.{Bool, true}
use native.Mathlib.Omega.{arith}
use lib.Dec.{ltb, leb, eqb}
use borrow.Author.Tests.{eqb-true, eq-eqb, leb-true, le-leb}
use Rattle.answers.specs.Numbers.{limit, allowed_rate}
use Rattle.answers.specs.Pick.{pick_true, pick_all, pick_case}
use Rattle.answers.specs.Refusals.{none}
use Rattle.answers.proofs.Refusals.{passed, passed_both}
use Rattle.units.specs.declared.Samples.{Samples}
use Rattle.tracker.specs.declared.Outcome.{Outcome}
use Rattle.tracker.specs.declared.Outcome.TheVariants.{Candidate, Unconfident}
use Rattle.tracker.specs.declared.Bands.{Bands}
use Rattle.tracker.specs.declared.Tracker.{Tracker}
use Rattle.tracker.specs.declared.Changed.{Changed}
use Rattle.tracker.specs.declared.Cycled.{Cycled}
use Rattle.tracker.specs.Tracker.{below_limit, bands_of, same_bands, state_refusal, changed, fresh, made, evidence, seamed}
use Rattle.tracker.specs.Cycle.{delay_at, unconfident_cycle, edge_cycle, escalated, outside_cycle, interior_cycle, judged, delay_below_limit, cycle_refusal, cycled}
use Rattle.tracker.specs.Rules.{Sound}

-- the rules are what the refusals of a state ask
pub accepted_sound : (t : Tracker) → state_refusal t ≡ none → Sound t
unfolding state_refusal
accepted_sound t e =
    let a = passed (allowed_rate t.rate) 0 _ e in
    let b = passed (same_bands t.bands (bands_of t.rate)) 2 _ a.1 in
    let c = passed (below_limit t.pending) 2 _ b.1 in
    let d = passed (below_limit t.prev) 2 _ c.1 in
    let f = passed (leb t.jumps t.largest) 8 none d.1 in
    record { rate = a.0; bands = b.0; pending = c.0; prev = d.0; largest = leb-true t.jumps t.largest f.0 }

pub sound_accepted : (t : Tracker) → Sound t → state_refusal t ≡ none
unfolding state_refusal
sound_accepted t s = simp (pick_true, s.rate, s.bands, s.pending, s.prev, le-leb t.jumps t.largest s.largest)

-- ---- a making

same_bands_lem : (b : Bands) → same_bands b b ≡ true
unfolding same_bands
same_bands_lem b = simp (pick_true, eq-eqb b.late b.late refl, eq-eqb b.early b.early refl, eq-eqb b.agree b.agree refl, eq-eqb b.apart b.apart refl, eq-eqb b.lead b.lead refl)

fresh_sound : (rate : ℕ) → allowed_rate rate ≡ true → Sound (fresh rate)
unfolding fresh
fresh_sound rate h = record { rate = h; bands = same_bands_lem (bands_of rate); pending = refl; prev = refl; largest = omega arith }

-- a refused making too
pub made_sound : (rate : ℕ) → Sound (made rate).tracker
unfolding made
made_sound rate =
    pick_case (λ (r : Changed). Sound r.tracker) (allowed_rate rate) _ _
    (λ h. fresh_sound rate h)
    (λ h. fresh_sound 8000 (pick_true true true _ refl))

-- ---- other evidence

evidence_sound : (t : Tracker) (p q : Option Samples) (e j u : ℕ) (b : Bool) → Sound t → below_limit p ≡ true → below_limit q ≡ true → Sound (evidence t p q e j u b)
evidence_sound t p q e j u b s hp hq = record { rate = s.rate; bands = s.bands; pending = hp; prev = hq; largest = omega arith }

pub seamed_sound : (t : Tracker) → Sound t → Sound (seamed t).tracker
unfolding changed
seamed_sound t s = pick_all (λ (r : Changed). Sound r.tracker) (eqb (state_refusal t) none) _ _ (evidence_sound t None None _ _ _ _ s refl refl) s

-- ---- a cycle

abbrev SoundAfter : Cycled → Type 0
SoundAfter r = Sound r.tracker

escalated_sound : (t : Tracker) (c h : Bool) → Sound t → SoundAfter (escalated t c h)
unfolding escalated
escalated_sound t c h s =
    pick_all SoundAfter c _ _
    (evidence_sound t t.pending t.prev _ _ _ _ s s.pending s.prev)
    (evidence_sound t t.pending t.prev _ _ _ _ s s.pending s.prev)

outside_sound : (t : Tracker) (a d : ℕ) → Sound t → ltb d limit ≡ true → SoundAfter (outside_cycle t a d)
unfolding outside_cycle
outside_sound t a d s h =
    pick_all SoundAfter _ _ _
    (evidence_sound t None (delay_at d) _ _ _ _ s refl h)
    (escalated_sound _ _ _ (evidence_sound t (delay_at d) (delay_at d) _ _ _ _ s h h))

interior_sound : (t : Tracker) (a d : ℕ) → Sound t → ltb d limit ≡ true → SoundAfter (interior_cycle t a d)
unfolding interior_cycle
interior_sound t a d s h =
    pick_all SoundAfter _ _ _ (outside_sound t a d s h) (escalated_sound _ _ _ (evidence_sound t None (delay_at d) _ _ _ _ s refl h))

judged_sound : (t : Tracker) (a : Samples) (o : Outcome) → Sound t → delay_below_limit o ≡ true → SoundAfter (judged t a o)
unfolding judged unconfident_cycle edge_cycle
judged_sound t a Unconfident s h = evidence_sound t t.pending t.prev _ _ _ _ s s.pending s.prev
judged_sound t a (Candidate d i) s h =
    pick_all SoundAfter i _ _ (interior_sound t a.0 d.0 s h) (evidence_sound t None None _ _ _ _ s refl refl)

delay_accepted : (t : Tracker) (a : Samples) (o : Outcome) → cycle_refusal t a o ≡ none → delay_below_limit o ≡ true
unfolding cycle_refusal
delay_accepted t a o e =
    let x = passed_both (state_refusal t) _ e in
    let y = passed (ltb a.0 limit) 4 _ x.1 in
    (passed (delay_below_limit o) 4 none y.1).0

pub accepted_cycle : (t : Tracker) (a : Samples) (o : Outcome) → cycle_refusal t a o ≡ none → Sound t
unfolding cycle_refusal
accepted_cycle t a o e = accepted_sound t (passed_both (state_refusal t) _ e).0

-- a refused cycle hands the tracker back, and an accepted one keeps the rules
pub cycled_sound : (t : Tracker) (a : Samples) (o : Outcome) → Sound t → SoundAfter (cycled t a o)
unfolding cycled
cycled_sound t a o s =
    pick_case SoundAfter (eqb (cycle_refusal t a o) none) _ _ (λ e. judged_sound t a o s (delay_accepted t a o (eqb-true _ _ e))) (λ e. s)
