-- Laws of the state: what holds of one that no call refuses with 1 or 3, and that it goes on to hold.
use Prim.Native.Nat.{ℕ, ◌+◌, ◌≤◌, ◌<◌}
use mathlib.Core.Path.{◌≡◌, refl, sym, ap, ◌∙◌}
use mathlib.Core.Bool.{Bool, true, false, false≢true}
use native.Mathlib.Omega.{arith}
use lib.Dec.{ltb, eqb}
use mir.Syntax.{w32, w64}
use mir.Val.{Fits}
use borrow.Author.Tests.{leb-true, ltb-true, eqb-true, le-leb, lt-ltb, eq-eqb}
use Rattle.answers.specs.Pick.{pick, pick_true, pick_case, both}
use Rattle.answers.specs.Numbers.{limit, allowed_span}
use Rattle.answers.proofs.Refusals.{passed, passed_both}
use Rattle.fine.specs.State.{Sound, transform_of, frame_of, window_of, lengths_of, same_lengths, new_with, span_of, keeps_rules, first_refusals}
use Rattle.fine.specs.Calls.{changed, making_refusal, made, state_refusal, restarted_at, restarted, relocate_refusal, relocated, was_reset}
use Rattle.units.specs.declared.Samples.{Samples}
use Rattle.fine.specs.declared.Changed.{Changed}
use Rattle.fine.specs.declared.Fine.{Fine}
use Rattle.fine.specs.declared.Lengths.{Lengths}

pub both_hold : (a b : Bool) → both a b ≡ true → (a ≡ true) × (b ≡ true)
unfolding pick
both_hold true b e = (refl, e)
both_hold false b e = absurd (false≢true e)

-- a call that 1, 2 and 3 do not refuse is lent buffers that fit, and its state keeps the rules
pub accepted : (s : Fine) (fitting : Bool) → first_refusals s fitting ≡ 0 → (fitting ≡ true) × Sound s
unfolding first_refusals keeps_rules same_lengths lengths_of
accepted s fitting e =
    let a = passed (allowed_span (span_of s)) 0 _ e in
    let b = passed fitting 1 _ a.1 in
    let c = passed (keeps_rules s) 2 _ b.1 in
    let d = both_hold _ _ c.0 in
    let l = both_hold _ _ d.0 in
    let r = both_hold _ _ d.1 in
    let w = both_hold _ _ a.0 in (
      b.0,
      record {
        least = leb-true _ _ w.0;
        most = leb-true _ _ w.1;
        transform = eqb-true _ _ l.0;
        frame = eqb-true _ _ l.1;
        origin = ltb-true _ _ r.0;
        near = leb-true _ _ r.1;
      },
    )

pub transform_most : (span : ℕ) → transform_of span ≤ 65536
unfolding transform_of
transform_most span = omega arith

-- what `Lengths::of` gives
module _ (span : ℕ) (due : Lengths) (e : due ≡ lengths_of span) where
  pub due_frame : due.frame ≡ frame_of span
  unfolding lengths_of
  due_frame = ap (λ (l : Lengths). l.frame) e

  pub due_window : due.frame + span ≡ window_of span
  due_window = ap (λ (n : ℕ). n + span) due_frame

  pub due_window_fits : Fits w32 span → Fits w64 (due.frame + span)
  due_window_fits f = omega (arith, due_frame, transform_most span, f)

-- ---- a state that keeps the rules keeps them: each call hands back one that does

pub sound_accepted : (s : Fine) → Sound s → first_refusals s true ≡ 0
unfolding first_refusals keeps_rules same_lengths lengths_of
sound_accepted s h =
    simp (pick_true, le-leb _ _ h.least, le-leb _ _ h.most, eq-eqb _ _ h.transform, eq-eqb _ _ h.frame, lt-ltb _ _ h.origin, le-leb _ _ h.near)

new_sound : (span : ℕ) → 1 ≤ span → span ≤ 32768 → Sound (new_with (lengths_of span))
unfolding new_with lengths_of
new_sound span l m = record { least = l; most = m; transform = refl; frame = refl; origin = omega arith; near = omega arith }

abbrev SoundAfter : Changed → Type 0
SoundAfter r = Sound r.fine

changed_sound : (refusal : ℕ) (given next : Fine) → Sound given → (refusal ≡ 0 → Sound next) → SoundAfter (changed refusal given next)
unfolding changed
changed_sound refusal given next g h = pick_case SoundAfter (eqb refusal 0) _ _ (λ e. h (eqb-true _ _ e)) (λ e. g)

pub made_sound : (span : ℕ) → SoundAfter (made span)
unfolding made making_refusal
made_sound span =
    changed_sound (making_refusal span) _ _ (new_sound 1 (omega arith) (omega arith))
    (λ e.
    let a = passed (allowed_span span) 0 0 e in
    let w = both_hold _ _ a.0 in
    new_sound span (leb-true _ _ w.0) (leb-true _ _ w.1))

restarted_at_sound : (s : Fine) (origin : Samples) → Sound s → origin.0 < limit → Sound (restarted_at s origin)
restarted_at_sound s origin h o = record { least = h.least; most = h.most; transform = h.transform; frame = h.frame; origin = o; near = omega arith }

pub restarted_sound : (s : Fine) → Sound s → SoundAfter (restarted s)
unfolding restarted
restarted_sound s h = changed_sound (state_refusal s) s _ h (λ e. restarted_at_sound s s.origin h h.origin)

pub relocated_sound : (s : Fine) (origin : Samples) → Sound s → SoundAfter (relocated s origin)
unfolding relocated relocate_refusal
relocated_sound s origin h =
    changed_sound (relocate_refusal s origin) s _ h
    (λ e. restarted_at_sound s origin h (ltb-true _ _ (passed (ltb origin.0 limit) 4 0 (passed_both (state_refusal s) _ e).1).0))

pub reset_sound : (s : Fine) → Sound s → SoundAfter (was_reset s)
unfolding was_reset new_with
reset_sound s h =
    changed_sound (state_refusal s) s _ h
    (λ e. record { least = h.least; most = h.most; transform = h.transform; frame = h.frame; origin = omega arith; near = omega arith })

-- ---- what the reports compute fits
module _ (s : Fine) (n : ℕ) (e : n ≡ state_refusal s) (z : n ≡ 0) where
  sound : Sound s
  unfolding state_refusal
  sound = (accepted s true (sym e ∙ z)).1

  pub window_fits : Fits w64 (s.lengths.frame + s.lengths.span)
  window_fits = omega (arith, sound.frame, sound.most, transform_most (span_of s))

  pub back_off_fits : Fits w64 (s.origin.0 + s.lengths.span)
  back_off_fits = omega (arith, sound.origin, sound.most)
