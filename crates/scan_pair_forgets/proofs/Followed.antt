-- What happened is what the rules say: the calls of a program, each with its answer, are those calls as the rules answer them in turn.
use mathlib.Core.Path.{◌≡◌, refl, sym, ap, ◌∙◌, subst}
use mathlib.Core.List.{List, [], ◌∷◌, ◌++◌}
use Rattle.scan.specs.Bins.{full_slack}
use Rattle.scan_pair.specs.State.{PairWorld}
use Rattle.scan_pair.specs.Steps.{PairCall, PairStep, pair_called}
use Rattle.scan_pair.proofs.Unchanged.{pair_unchanged}
use Rattle.scan_pair_forgets.specs.Happened.{PairAnswered, one_pair, pair_by_rules, AllRefusedOfPair, PairHappened, PairInTurn, by_push_far, by_push_near, by_push_near_run, by_observe, by_rearm, by_discard_near, by_reset_call, by_bin_samples, by_ceiling_samples, by_region, by_beyond_ceiling, by_frames, by_correlation, by_finished, by_exhausted, none_more, next, foreign}
use Rattle.scan_pair_forgets.proofs.Runs.{after_calls, run_steps}
use Rattle.scan_pair_forgets.proofs.Made.{push_far_steps, push_near_steps, observe_steps, rearm_steps, discard_near_steps, reset_steps, bin_samples_steps, ceiling_samples_steps, region_steps, beyond_ceiling_steps, frames_steps, correlation_steps, finished_steps, exhausted_steps}

pub record Followed (w : PairWorld) (t : List PairAnswered) (w' : PairWorld) : Type 0 where
  pub calls : List PairCall
  pub answered : t ≡ pair_by_rules w calls
  pub ends : after_calls w calls ≡ w'

-- one call, from the law of its function
stepped : (w : PairWorld) (c : PairCall) (s : PairStep) → s ≡ pair_called full_slack w c → Followed w (one_pair w c s.response) s.world
unfolding pair_by_rules after_calls
stepped w c s e = record { calls = c ∷ []; answered = ap (λ (z : PairStep). one_pair w c z.response) e; ends = ap (λ (z : PairStep). z.world) (sym e) }

pub followed : {w w' : PairWorld} {t : List PairAnswered} → PairHappened w t w' → Followed w t w'
followed (by_push_far f w s e) = stepped w _ _ (push_far_steps f w s e)
followed (by_push_near f w s e) = stepped w _ _ (push_near_steps f w s e)
followed (by_push_near_run f w s e a b) = record { calls = _; answered = refl; ends = run_steps f w s e a b }
followed (by_observe f w s e) = stepped w _ _ (observe_steps f w s e)
followed (by_rearm f w s e) = stepped w _ _ (rearm_steps f w s e)
followed (by_discard_near f w s e) = stepped w _ _ (discard_near_steps f w s e)
followed (by_reset_call f w s e l m) = stepped w _ _ (reset_steps f w s e l m)
followed (by_bin_samples f w s) = stepped w _ _ (bin_samples_steps f w s)
followed (by_ceiling_samples f w s) = stepped w _ _ (ceiling_samples_steps f w s)
followed (by_region f w s) = stepped w _ _ (region_steps f w s)
followed (by_beyond_ceiling f w s) = stepped w _ _ (beyond_ceiling_steps f w s)
followed (by_frames f w s) = stepped w _ _ (frames_steps f w s)
followed (by_correlation f w s) = stepped w _ _ (correlation_steps f w s)
followed (by_finished f w s) = stepped w _ _ (finished_steps f w s)
followed (by_exhausted f w s) = stepped w _ _ (exhausted_steps f w s)

-- ---- calls in turn

by_rules_append : (calls more : List PairCall) (w : PairWorld) → pair_by_rules w (calls ++ more) ≡ pair_by_rules w calls ++ pair_by_rules (after_calls w calls) more
unfolding pair_by_rules after_calls
by_rules_append [] more w = refl
by_rules_append (c ∷ calls) more w = ap (λ (l : List PairAnswered). record { handed = w; call = c; response = (pair_called full_slack w c).response } ∷ l) (by_rules_append calls more (pair_called full_slack w c).world)

after_calls_append : (calls more : List PairCall) (w : PairWorld) → after_calls w (calls ++ more) ≡ after_calls (after_calls w calls) more
unfolding after_calls
after_calls_append [] more w = refl
after_calls_append (c ∷ calls) more w = after_calls_append calls more (pair_called full_slack w c).world

then : {w w' w'' : PairWorld} {t ts : List PairAnswered} → Followed w t w' → Followed w' ts w'' → Followed w (t ++ ts) w''
then {w} {w'} {w''} {t} {ts} f g =
    record {
      calls = f.calls ++ g.calls;
      answered = (λ i. f.answered i ++ g.answered i) ∙ ap (λ (z : PairWorld). pair_by_rules w f.calls ++ pair_by_rules z g.calls) (sym f.ends) ∙ sym (by_rules_append f.calls g.calls w);
      ends = after_calls_append f.calls g.calls w ∙ ap (λ (z : PairWorld). after_calls z g.calls) f.ends ∙ g.ends;
    }

-- a call that was refused changed nothing
refused_unchanged : (calls : List PairCall) (w : PairWorld) → AllRefusedOfPair (pair_by_rules w calls) → after_calls w calls ≡ w
unfolding pair_by_rules after_calls
refused_unchanged [] w r = refl
refused_unchanged (c ∷ calls) w r =
    let e = pair_unchanged full_slack w c r.0 in
    ap (λ (z : PairWorld). after_calls z calls) e ∙ refused_unchanged calls w (subst (λ (z : PairWorld). AllRefusedOfPair (pair_by_rules z calls)) e r.1)

pub in_turn : {w w' : PairWorld} {t : List PairAnswered} → PairInTurn w t w' → Followed w t w'
unfolding pair_by_rules after_calls
in_turn (none_more w) = record { calls = []; answered = refl; ends = refl }
in_turn (next h rest) = then (followed h) (in_turn rest)
in_turn (foreign {v} {v'} {w'} {other} {later} around h r rest) =
    let f = followed h in
    let same : v ≡ v' = sym (refused_unchanged f.calls v (subst AllRefusedOfPair f.answered r)) ∙ f.ends in
    subst (λ (z : PairWorld). Followed z later w') (ap around (sym same)) (in_turn rest)
