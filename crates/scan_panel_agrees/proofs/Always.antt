-- The far sides of the two scans stay alike whatever is called, parted or not; and a rearm or a reset makes the two agree.
use Prim.Native.Nat.{ℕ, ◌<◌}
use mathlib.Core.Path.{◌≡◌, refl, sym, ap, ap₂, ◌∙◌, subst, subst₂}
use mathlib.Core.Logic.{◌⊎◌, inl, inr}
use mathlib.Core.List.{List}
use mathlib.Core.Bool.{true, false≢true}
use native.Mathlib.Omega.{arith}
use lib.Ieee.{Float}
use Rattle.answers.specs.Refusals.{none}
use Rattle.folds.specs.Sums.{zeros}
use Rattle.scan.specs.Bins.{envelope_len, lags}
use Rattle.scan.specs.State.{World}
use Rattle.scan.specs.Blocks.{hear_all}
use Rattle.scan.specs.Calls.{FarPush, far_refusal, pushed_far}
use Rattle.scan.proofs.Laws.{if_refused_both}
use Rattle.scan.specs.Steps.{changes, near, score, rearm, discard, reset, ask, Call, far, deed, Step, refusal_of, called}
use Rattle.scan.specs.Streams.{FairCall, brought_by}
use Rattle.scan.specs.declared.Geometry.{Geometry}
use Rattle.scan.proofs.Settings
use Rattle.scan.proofs.Sound.{heard_in}
use Rattle.scan.proofs.Numbered.{far_number}
use Rattle.scan.proofs.Earlier.{call_passes}
use Rattle.scan_panel_agrees.specs.Agreement.{FarAlike, Agree, anew_call, common_call}
use Rattle.scan_panel.specs.Feeds.{TypedCall}
use Rattle.scan_panel_agrees.proofs.Rings.{HeardPair, hears_all}
use Rattle.scan_panel_agrees.proofs.Own.{Own, fair_or_reset, first_none, envelope_right, rearm_is, reset_is}

module _ (wide narrow : ℕ) (less : narrow < wide) (w v : World) (h : FarAlike wide narrow w v) (o : Own wide w) (o' : Own narrow v) where
  abbrev g : Geometry
  g = w.scan.geometry

  pair : HeardPair wide narrow g (heard_in w) (heard_in v)
  pair = record { far = h.far; long = o.sound.far.length; short = o'.sound.far.length ∙ ap (envelope_len narrow) h.geometry; bins = h.bins }

  -- a far push is refused by both or by none
  pub far_refusal_lem : (xs : List Float) → far_refusal narrow v.scan v.buffers.envelope xs ≡ far_refusal wide w.scan w.buffers.envelope xs
  unfolding far_refusal
  far_refusal_lem xs =
      let e = first_none wide w o _ (envelope_right wide w o) in
      let e' = first_none narrow v o' _ (envelope_right narrow v o') in
      let f : v.scan.far ≡ w.scan.far = h.far in
      cc

  brought : (c : Call) → brought_by narrow v c ≡ brought_by wide w c
  unfolding called
  brought (far xs) = let e = far_refusal_lem xs in let p = (far_number wide w xs).is in let q = (far_number narrow v xs).is in cc
  brought (deed d) = refl

  fair_alike : (c : Call) → FairCall wide w c → FairCall narrow v c → FarAlike wide narrow (called wide w c).world (called narrow v c).world
  fair_alike c f f' =
      let p = call_passes wide w o.sound c f in
      let q = call_passes narrow v o'.sound c f' in
      let heard : heard_in (called narrow v c).world ≡ hear_all narrow g (heard_in v) (brought_by wide w c) =
      q.heard ∙ ap₂ {A = Geometry} {B = List Float} (λ (z : Geometry) (xs : List Float). hear_all narrow z (heard_in v) xs) h.geometry (brought c) in
      let after : HeardPair wide narrow g (heard_in (called wide w c).world) (heard_in (called narrow v c).world) =
      subst₂ (HeardPair wide narrow g) (sym p.heard) (sym heard) (hears_all wide narrow less g (Settings.wide g o.sound.allowed) (brought_by wide w c) (heard_in w) (heard_in v) pair) in
      let here : HeardPair wide narrow (called wide w c).world.scan.geometry (heard_in (called wide w c).world) (heard_in (called narrow v c).world) =
      subst (λ (z : Geometry). HeardPair wide narrow z (heard_in (called wide w c).world) (heard_in (called narrow v c).world)) (sym p.geometry) after in
      record { geometry = q.geometry ∙ h.geometry ∙ sym p.geometry; far = here.far; bins = here.bins }

  -- ---- a rearm and a reset

  -- near side, verdict and lag sums are new on both sides
  rearm_both : Agree wide narrow (called wide w (deed rearm)).world (called narrow v (deed rearm)).world
  rearm_both =
      subst₂ (λ (s t : Step). Agree wide narrow s.world t.world) (sym (rearm_is wide w o)) (sym (rearm_is narrow v o'))
      (record {
        far_alike = record { geometry = h.geometry; far = h.far; bins = h.bins };
        near = refl;
        verdict = refl;
        levels = λ i l. absurd (omega arith);
        lag_sums = ap (λ (z : Geometry). zeros (lags z)) h.geometry;
      })

  -- and so is the far side after a reset
  reset_both : Agree wide narrow (called wide w (deed reset)).world (called narrow v (deed reset)).world
  reset_both =
      subst₂ (λ (s t : Step). Agree wide narrow s.world t.world) (sym (reset_is wide w o)) (sym (reset_is narrow v o'))
      (record {
        far_alike = record { geometry = h.geometry; far = refl; bins = λ j l k. absurd (omega arith) };
        near = refl;
        verdict = refl;
        levels = λ i l. absurd (omega arith);
        lag_sums = ap (λ (z : Geometry). zeros (lags z)) h.geometry;
      })

  -- an accepted rearm or reset on both sides makes the two agree
  pub rearm_agrees : (c : Call) → anew_call c ≡ true → Agree wide narrow (called wide w c).world (called narrow v c).world
  rearm_agrees (far xs) e = absurd (false≢true e)
  rearm_agrees (deed (near x index)) e = absurd (false≢true e)
  rearm_agrees (deed score) e = absurd (false≢true e)
  rearm_agrees (deed rearm) e = rearm_both
  rearm_agrees (deed discard) e = absurd (false≢true e)
  rearm_agrees (deed reset) e = reset_both
  rearm_agrees (deed (ask r)) e = absurd (false≢true e)

  -- far pushes are answered alike, parted or not
  far_answers : (xs : List Float) → (called narrow v (far xs)).response ≡ (called wide w (far xs)).response
  unfolding called pushed_far
  far_answers xs = rw (far_refusal_lem xs) (if_refused_both (λ (p q : FarPush). changes q.changed.answer ≡ changes p.changed.answer) (far_refusal wide w.scan w.buffers.envelope xs) _ _ _ _ refl (λ z. refl))

  -- rearms and resets too
  pub answers_always : (c : Call) → common_call c ≡ true → (called narrow v c).response ≡ (called wide w c).response
  answers_always (far xs) e = far_answers xs
  answers_always (deed (near x index)) e = absurd (false≢true e)
  answers_always (deed score) e = absurd (false≢true e)
  answers_always (deed rearm) e = ap (λ (s : Step). s.response) (rearm_is narrow v o') ∙ sym (ap (λ (s : Step). s.response) (rearm_is wide w o))
  answers_always (deed discard) e = absurd (false≢true e)
  answers_always (deed reset) e = ap (λ (s : Step). s.response) (reset_is narrow v o') ∙ sym (ap (λ (s : Step). s.response) (reset_is wide w o))
  answers_always (deed (ask r)) e = absurd (false≢true e)

  -- and neither of these is refused by either
  pub anew_done : (c : Call) → anew_call c ≡ true → (refusal_of (called wide w c).response ≡ none) × (refusal_of (called narrow v c).response ≡ none)
  anew_done (far xs) e = absurd (false≢true e)
  anew_done (deed (near x index)) e = absurd (false≢true e)
  anew_done (deed score) e = absurd (false≢true e)
  anew_done (deed rearm) e = (ap (λ (s : Step). refusal_of s.response) (rearm_is wide w o), ap (λ (s : Step). refusal_of s.response) (rearm_is narrow v o'))
  anew_done (deed discard) e = absurd (false≢true e)
  anew_done (deed reset) e = (ap (λ (s : Step). refusal_of s.response) (reset_is wide w o), ap (λ (s : Step). refusal_of s.response) (reset_is narrow v o'))
  anew_done (deed (ask r)) e = absurd (false≢true e)

  -- ---- every call

  pub far_alike_always : (c : Call) → TypedCall c → FarAlike wide narrow (called wide w c).world (called narrow v c).world
  far_alike_always c t = go (fair_or_reset wide w c t) (fair_or_reset narrow v c t)
    where
      go : FairCall wide w c ⊎ (c ≡ deed reset) → FairCall narrow v c ⊎ (c ≡ deed reset) → FarAlike wide narrow (called wide w c).world (called narrow v c).world
      go (inl f) (inl f') = fair_alike c f f'
      go (inl f) (inr e) = rw e reset_both.far_alike
      go (inr e) k = rw e reset_both.far_alike
