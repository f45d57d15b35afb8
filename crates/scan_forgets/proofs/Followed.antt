-- What happened is what the rules say: the calls of a program, each with its answer, are those calls as the rules answer them in turn.
use Prim.Native.Nat.{ℕ}
use mathlib.Core.Path.{◌≡◌, refl, sym, ap, ◌∙◌, subst}
use mathlib.Core.List.{List, [], ◌∷◌, ◌++◌}
use Rattle.answers.specs.Refusals.{none}
use Rattle.scan.specs.Bins.{full_slack}
use Rattle.scan.specs.State.{Buffers, World}
use Rattle.scan.specs.Calls.{Restart, making_refusal, made}
use Rattle.scan.specs.Steps.{Call, refusal_of, changes, called, making, Step}
use Rattle.scan.proofs.Laws.{if_refused_case}
use Rattle.scan.proofs.Contracts.{reset_step}
use Rattle.scan.proofs.FourFacts.{unchanged}
use Rattle.scan_forgets.specs.Happened.{Answered, one, by_rules, AllRefused, Happened, InTurn, by_push_far, by_push_near, by_push_near_run, by_observe, by_rearm, by_discard_near, by_reset_call, by_bin_samples, by_ceiling_samples, by_region, by_beyond_ceiling, by_frames, by_correlation, by_finished, by_exhausted, none_more, next, foreign, unmade}
use Rattle.scan_forgets.proofs.Runs.{after_calls, push_near_run_steps}
use Rattle.scan_forgets.proofs.Made.{new_steps, push_far_steps, push_near_steps, observe_steps, rearm_steps, discard_near_steps, reset_steps, bin_samples_steps, ceiling_samples_steps, region_steps, beyond_ceiling_steps, frames_steps, correlation_steps, finished_steps, exhausted_steps}

pub record Followed (w : World) (t : List Answered) (w' : World) : Type 0 where
  pub calls : List Call
  pub answered : t ≡ by_rules w calls
  pub ends : after_calls w calls ≡ w'

-- one call, from the law of its function
stepped : (w : World) (c : Call) (s : Step) → s ≡ called full_slack w c → Followed w (one w c s.response) s.world
unfolding by_rules after_calls
stepped w c s e = record { calls = c ∷ []; answered = ap (λ (z : Step). one w c z.response) e; ends = ap (λ (z : Step). z.world) (sym e) }

pub followed : {w w' : World} {t : List Answered} → Happened w t w' → Followed w t w'
followed (by_push_far f w s e) = stepped w _ _ (push_far_steps f w s e)
followed (by_push_near f w s e) = stepped w _ _ (push_near_steps f w s e)
followed (by_push_near_run f w s e) = record { calls = _; answered = refl; ends = (push_near_run_steps f w s e).ends }
followed (by_observe f w s e) = stepped w _ _ (observe_steps f w s e)
followed (by_rearm f w s e) = stepped w _ _ (rearm_steps f w s e)
followed (by_discard_near f w s e) = stepped w _ _ (discard_near_steps f w s e)
followed (by_reset_call f w s e l) = stepped w _ _ (reset_steps f w s e l)
followed (by_bin_samples f w s) = stepped w _ _ (bin_samples_steps f w s)
followed (by_ceiling_samples f w s) = stepped w _ _ (ceiling_samples_steps f w s)
followed (by_region f w s) = stepped w _ _ (region_steps f w s)
followed (by_beyond_ceiling f w s) = stepped w _ _ (beyond_ceiling_steps f w s)
followed (by_frames f w s) = stepped w _ _ (frames_steps f w s)
followed (by_correlation f w s) = stepped w _ _ (correlation_steps f w s)
followed (by_finished f w s) = stepped w _ _ (finished_steps f w s)
followed (by_exhausted f w s) = stepped w _ _ (exhausted_steps f w s)

-- ---- calls in turn

by_rules_append : (calls more : List Call) (w : World) → by_rules w (calls ++ more) ≡ by_rules w calls ++ by_rules (after_calls w calls) more
unfolding by_rules after_calls
by_rules_append [] more w = refl
by_rules_append (c ∷ calls) more w = ap (λ (l : List Answered). record { handed = w; call = c; response = (called full_slack w c).response } ∷ l) (by_rules_append calls more (called full_slack w c).world)

after_calls_append : (calls more : List Call) (w : World) → after_calls w (calls ++ more) ≡ after_calls (after_calls w calls) more
unfolding after_calls
after_calls_append [] more w = refl
after_calls_append (c ∷ calls) more w = after_calls_append calls more (called full_slack w c).world

pub then : {w w' w'' : World} {t ts : List Answered} → Followed w t w' → Followed w' ts w'' → Followed w (t ++ ts) w''
then {w} {w'} {w''} {t} {ts} f g =
    record {
      calls = f.calls ++ g.calls;
      answered = (λ i. f.answered i ++ g.answered i) ∙ ap (λ (z : World). by_rules w f.calls ++ by_rules z g.calls) (sym f.ends) ∙ sym (by_rules_append f.calls g.calls w);
      ends = after_calls_append f.calls g.calls w ∙ ap (λ (z : World). after_calls z g.calls) f.ends ∙ g.ends;
    }

-- a call that was refused changed nothing
refused_unchanged : (calls : List Call) (w : World) → AllRefused (by_rules w calls) → after_calls w calls ≡ w
unfolding by_rules after_calls
refused_unchanged [] w r = refl
refused_unchanged (c ∷ calls) w r =
    let e = unchanged full_slack w c r.0 in
    ap (λ (z : World). after_calls z calls) e ∙ refused_unchanged calls w (subst (λ (z : World). AllRefused (by_rules z calls)) e r.1)

making_unchanged : (rate ceiling : ℕ) (b : Buffers) → (refusal_of (making full_slack rate ceiling b).response ≡ none → ⊥) → (making full_slack rate ceiling b).world.buffers ≡ b
unfolding making made
making_unchanged rate ceiling b =
    if_refused_case (λ (p : Restart). (refusal_of (changes p.changed.answer) ≡ none → ⊥) → (reset_step b p).world.buffers ≡ b) (making_refusal full_slack rate ceiling b.envelope b.lag_sums) _ _ (λ r f. refl) (λ z f. absurd (f refl))

pub in_turn : {w w' : World} {t : List Answered} → InTurn w t w' → Followed w t w'
unfolding by_rules after_calls
in_turn (none_more w) = record { calls = []; answered = refl; ends = refl }
in_turn (next h rest) = then (followed h) (in_turn rest)
in_turn (foreign {v} {v'} {w'} {other} {later} around h r rest) =
    let f = followed h in
    let same : v ≡ v' = sym (refused_unchanged f.calls v (subst AllRefused f.answered r)) ∙ f.ends in
    subst (λ (z : World). Followed z later w') (ap around (sym same)) (in_turn rest)
in_turn (unmade {w'} {later} around f b e l r rest) =
    let s = new_steps f b e l in
    let same = ap (λ (z : Step). z.world.buffers) s ∙ making_unchanged f.given.0 f.given.1.0 b (λ z. r (ap (λ (z : Step). refusal_of z.response) s ∙ z)) in
    subst (λ (z : World). Followed z later w') (ap around same) (in_turn rest)
