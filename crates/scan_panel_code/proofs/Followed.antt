-- What happened is what the rules say, of the profile and of the full scan; and a call that is refused changes nothing.
use Prim.Native.Nat.{ℕ, ◌+◌}
use mathlib.Core.Path.{◌≡◌, refl, sym, ap, ap₂, ◌∙◌, subst}
use mathlib.Core.List.{List, [], ◌∷◌}
use mathlib.Core.Bool.{Bool, true, false}
use native.Mathlib.Omega.{arith}
use lib.Dec.{eqb}
use lib.ListN.{length}
use lib.Ieee.{Float}
use Rattle.answers.specs.Pick.{pick, pick_case}
use Rattle.answers.specs.Refusals.{none}
use Rattle.scan.specs.Bins.{full_slack}
use Rattle.scan.specs.State.{Buffers, World, finished, full}
use Rattle.scan.specs.Blocks.{held_at}
use Rattle.scan.specs.Calls.{Restart, making_refusal, made}
use Rattle.scan.specs.Steps.{Call, Response, refusal_of, changes, called, making, Step}
use Rattle.scan.specs.declared.Geometry.{Geometry}
use Rattle.scan.specs.declared.Near.{Near}
use Rattle.scan.proofs.Laws.{if_refused_case}
use Rattle.scan.proofs.Contracts.{reset_step}
use Rattle.scan.proofs.FourFacts.{unchanged}
use Rattle.scan_forgets.specs.Happened.{Answered, one, by_rules}
use Rattle.scan_forgets.proofs.Runs.{after_calls}
use Rattle.scan_forgets.proofs.Followed.{followed}
use Rattle.scan_forgets.proofs.Made as full-made
use Rattle.scan_handover.specs.declared.Handed.{Handed}
use Rattle.scan_handover.specs.declared.RunTaking.TheVariants as taking
use Rattle.scan_handover.specs.Handover.{lead, takes, goes_in, run_refusal, NearRun, gather_all, handed}
use Rattle.scan_panel.specs.Panel.{panel_slack, allows, panel_making_refusal, panel_made, panel_making}
use Rattle.scan_panel.specs.Feeds.{Fed, call, run, Answer, says, counts, Feeding, stepped, ran, fed, panel_fed, panel_after, panel_answers}
use Rattle.scan_panel.proofs.Panel.{panel_refused, run_refused}
use Rattle.scan_panel.proofs.Streams.{panel_fed_lem}
use Rattle.scan_panel_agrees.specs.Agreement.{full_after, full_answers}
use Rattle.scan_panel_code.specs.Happened.{refusal_in, PanelHappened, by_push_far, by_push_near, by_push_near_run, by_observe, by_rearm, by_discard_near, by_reset_call, by_bin_samples, by_ceiling_samples, by_region, by_beyond_ceiling, by_frames, by_correlation, by_finished, by_exhausted, FullHappened, by_call, by_run, PanelMade, by_new, FullMade, by_full_new, none_more, next, foreign, unmade, PanelInTurn, FullInTurn}
use Rattle.scan_panel_code.proofs.Made.{new_steps, push_far_steps, push_near_steps, observe_steps, rearm_steps, discard_near_steps, reset_steps, bin_samples_steps, ceiling_samples_steps, region_steps, beyond_ceiling_steps, frames_steps, correlation_steps, finished_steps, exhausted_steps}

abbrev feeding : Answer → World → Feeding
feeding a w = record { answer = a; world = w }

run_whole : (q : NearRun) (h : Handed) (l : List Float) → h ≡ q.handed → l ≡ q.levels → ◌≡◌ {A = NearRun} (record { handed = h; levels = l }) q
run_whole q h l p r = rw (p, r)

-- ---- one call

pub panel_happened : {w w' : World} {f : Fed} {a : Answer} → PanelHappened w f a w' → panel_fed w f ≡ feeding a w'
unfolding panel_fed
panel_happened (by_push_far f w s e) = ap stepped (sym (push_far_steps f w s e))
panel_happened (by_push_near f w s e) = ap stepped (sym (push_near_steps f w s e))
panel_happened (by_push_near_run f w s e) = ap (ran w) (sym (rw (s, e) (run_whole _ _ _ f.admitted.0 f.admitted.1)))
panel_happened (by_observe f w s e) = ap stepped (sym (observe_steps f w s e))
panel_happened (by_rearm f w s e) = ap stepped (sym (rearm_steps f w s e))
panel_happened (by_discard_near f w s e) = ap stepped (sym (discard_near_steps f w s e))
panel_happened (by_reset_call f w s e l) = ap stepped (sym (reset_steps f w s e l))
panel_happened (by_bin_samples f w s) = ap stepped (sym (bin_samples_steps f w s))
panel_happened (by_ceiling_samples f w s) = ap stepped (sym (ceiling_samples_steps f w s))
panel_happened (by_region f w s) = ap stepped (sym (region_steps f w s))
panel_happened (by_beyond_ceiling f w s) = ap stepped (sym (beyond_ceiling_steps f w s))
panel_happened (by_frames f w s) = ap stepped (sym (frames_steps f w s))
panel_happened (by_correlation f w s) = ap stepped (sym (correlation_steps f w s))
panel_happened (by_finished f w s) = ap stepped (sym (finished_steps f w s))
panel_happened (by_exhausted f w s) = ap stepped (sym (exhausted_steps f w s))

-- a single call of the full scan, from what its calls are by the rules
abbrev first : Answered → List Answered → Answered
first a [] = a
first a (b ∷ rest) = b

call_is : (w w' : World) (c : Call) (r : Response) (calls : List Call) → one w c r ≡ by_rules w calls → after_calls w calls ≡ w' → ((called full_slack w c).response ≡ r) × ((called full_slack w c).world ≡ w')
unfolding by_rules after_calls
call_is w w' c r [] t e = let z : ◌≡◌ {A = ℕ} 1 0 = ap length t in absurd (omega arith)
call_is w w' c r (d ∷ []) t e =
    let a = ap (first (record { handed = w; call = c; response = r })) t in
    let same : c ≡ d = ap (λ (z : Answered). z.call) a in
    (ap (λ (z : Call). (called full_slack w z).response) same ∙ sym (ap (λ (z : Answered). z.response) a), ap (λ (z : Call). (called full_slack w z).world) same ∙ e)
call_is w w' c r (d ∷ d' ∷ calls) t e = let z = ap length t in absurd (omega arith)

pub full_happened : {w w' : World} {f : Fed} {a : Answer} → FullHappened w f a w' → fed full_slack w f ≡ feeding a w'
unfolding fed
full_happened (by_call {w} {w'} {c} {r} h) =
    let f = followed h in
    let s = call_is w w' c r f.calls f.answered f.ends in
    λ i. feeding (says (s.0 i)) (s.1 i)
full_happened (by_run f w s e) = ap (ran w) (sym (rw (s, e) (run_whole _ _ _ f.admitted.0 f.admitted.1)))

-- ---- a refused call changes nothing

taken_passes : (b : Bool) (n : ℕ) → refusal_in (counts (pick b (taking.Full n) (taking.Taken n))) ≡ none
unfolding pick
taken_passes true n = refl
taken_passes false n = refl

run_unchanged : (w : World) (xs : List Float) (first : ℕ) → (refusal_in (counts (handed w.scan w.buffers.levels xs first).handed.answer) ≡ none → ⊥) → (ran w (handed w.scan w.buffers.levels xs first)).world ≡ w
unfolding handed
run_unchanged w xs first =
    if_refused_case P (run_refusal w.scan w.buffers.levels xs first) _ _ (λ r n. refl)
    (λ z. pick_case P (eqb (length xs) 0) _ _ (λ e n. absurd (n refl))
    (λ e. pick_case P (finished w.scan.verdict) _ _ (λ f n. absurd (n refl))
    (λ f n. absurd (n (taken_passes (full g (gather_all g (record { near = m; levels = w.buffers.levels }) (goes_in g m first xs) (first + lead g m first)).near) (takes g m first (length xs)))))))
  where
    P : NearRun → Type 0
    P r = (refusal_in (counts r.handed.answer) ≡ none → ⊥) → (ran w r).world ≡ w

    g : Geometry
    g = w.scan.geometry

    m : Near
    m = held_at w.scan.near first

fed_unchanged : (slack : ℕ) (w : World) (f : Fed) → (refusal_in (fed slack w f).answer ≡ none → ⊥) → (fed slack w f).world ≡ w
unfolding fed
fed_unchanged slack w (call c) n = unchanged slack w c n
fed_unchanged slack w (run xs first) n = run_unchanged w xs first n

not_allowed_unchanged : (v : World) (f : Fed) → allows v.scan ≡ false → (panel_fed v f).world ≡ v
unfolding panel_fed
not_allowed_unchanged v (call c) t = (panel_refused v c t).world
not_allowed_unchanged v (run xs first) t = ap (λ (r : NearRun). (ran v r).world) (run_refused v.scan v.buffers.levels xs first t)

panel_unchanged : (v : World) (f : Fed) → (refusal_in (panel_fed v f).answer ≡ none → ⊥) → (panel_fed v f).world ≡ v
panel_unchanged v f n = go (allows v.scan) refl
  where
    go : (b : Bool) → allows v.scan ≡ b → (panel_fed v f).world ≡ v
    go true t =
        let e = panel_fed_lem v f t in
        ap (λ (z : Feeding). z.world) e ∙ fed_unchanged panel_slack v f (λ z. n (ap (λ (z : Feeding). refusal_in z.answer) e ∙ z))
    go false t = not_allowed_unchanged v f t

panel_unmade_lists : (rate ceiling : ℕ) (b : Buffers) → (refusal_of (panel_making rate ceiling b).response ≡ none → ⊥) → (panel_making rate ceiling b).world.buffers ≡ b
unfolding panel_making panel_made
panel_unmade_lists rate ceiling b =
    if_refused_case (λ (p : Restart). (refusal_of (changes p.changed.answer) ≡ none → ⊥) → (reset_step b p).world.buffers ≡ b) (panel_making_refusal rate ceiling b.envelope b.lag_sums) _ _ (λ r f. refl) (λ z f. absurd (f refl))

full_unmade_lists : (rate ceiling : ℕ) (b : Buffers) → (refusal_of (making full_slack rate ceiling b).response ≡ none → ⊥) → (making full_slack rate ceiling b).world.buffers ≡ b
unfolding making made
full_unmade_lists rate ceiling b =
    if_refused_case (λ (p : Restart). (refusal_of (changes p.changed.answer) ≡ none → ⊥) → (reset_step b p).world.buffers ≡ b) (making_refusal full_slack rate ceiling b.envelope b.lag_sums) _ _ (λ r f. refl) (λ z f. absurd (f refl))

-- ---- a making

abbrev made_step : Response → World → Step
made_step r w = record { response = r; world = w }

pub panel_made_is : {rate ceiling : ℕ} {b : Buffers} {r : Response} {v : World} → PanelMade rate ceiling b r v → panel_making rate ceiling b ≡ made_step r v
panel_made_is {rate} {ceiling} {b} (by_new f p q e l) = ap₂ {A = ℕ} {B = ℕ} (λ (x y : ℕ). panel_making x y b) p q ∙ sym (new_steps f b e l)

pub full_made_is : {rate ceiling : ℕ} {b : Buffers} {r : Response} {v : World} → FullMade rate ceiling b r v → making full_slack rate ceiling b ≡ made_step r v
full_made_is {rate} {ceiling} {b} (by_full_new f p q e l) = ap₂ {A = ℕ} {B = ℕ} (λ (x y : ℕ). making full_slack x y b) p q ∙ sym (full-made.new_steps f b e l)

-- ---- calls in turn

pub panel_in_turn : {w w' : World} {calls : List Fed} {told : List Answer} → PanelInTurn w calls told w' → (panel_after w calls ≡ w') × (panel_answers w calls ≡ told)
unfolding panel_after panel_answers
panel_in_turn (none_more w) = (refl, refl)
panel_in_turn (next {w} {w'} {w''} {f} {a} {calls} {told} h rest) =
    let s = panel_happened h in
    let r = panel_in_turn rest in
    (ap (λ (z : Feeding). panel_after z.world calls) s ∙ r.0, ap (λ (z : Feeding). z.answer ∷ panel_answers z.world calls) s ∙ ap (λ (l : List Answer). a ∷ l) r.1)
panel_in_turn (foreign {v} {v'} {w'} {f} {a} {calls} {told} around h n rest) =
    let s = panel_happened h in
    let same : v ≡ v' = sym (panel_unchanged v f (λ z. n (ap (λ (z : Feeding). refusal_in z.answer) (sym s) ∙ z))) ∙ ap (λ (z : Feeding). z.world) s in
    subst (λ (z : World). (panel_after z calls ≡ w') × (panel_answers z calls ≡ told)) (ap around (sym same)) (panel_in_turn rest)
panel_in_turn (unmade {rate} {ceiling} {b} {r} {v} {w'} {calls} {told} around h n rest) =
    let s = panel_made_is h in
    let same : v.buffers ≡ b = ap (λ (z : Step). z.world.buffers) (sym s) ∙ panel_unmade_lists rate ceiling b (λ z. n (ap (λ (z : Step). refusal_of z.response) (sym s) ∙ z)) in
    subst (λ (z : World). (panel_after z calls ≡ w') × (panel_answers z calls ≡ told)) (ap around same) (panel_in_turn rest)

pub full_in_turn : {w w' : World} {calls : List Fed} {told : List Answer} → FullInTurn w calls told w' → (full_after w calls ≡ w') × (full_answers w calls ≡ told)
unfolding full_after full_answers
full_in_turn (none_more w) = (refl, refl)
full_in_turn (next {w} {w'} {w''} {f} {a} {calls} {told} h rest) =
    let s = full_happened h in
    let r = full_in_turn rest in
    (ap (λ (z : Feeding). full_after z.world calls) s ∙ r.0, ap (λ (z : Feeding). z.answer ∷ full_answers z.world calls) s ∙ ap (λ (l : List Answer). a ∷ l) r.1)
full_in_turn (foreign {v} {v'} {w'} {f} {a} {calls} {told} around h n rest) =
    let s = full_happened h in
    let same : v ≡ v' = sym (fed_unchanged full_slack v f (λ z. n (ap (λ (z : Feeding). refusal_in z.answer) (sym s) ∙ z))) ∙ ap (λ (z : Feeding). z.world) s in
    subst (λ (z : World). (full_after z calls ≡ w') × (full_answers z calls ≡ told)) (ap around (sym same)) (full_in_turn rest)
full_in_turn (unmade {rate} {ceiling} {b} {r} {v} {w'} {calls} {told} around h n rest) =
    let s = full_made_is h in
    let same : v.buffers ≡ b = ap (λ (z : Step). z.world.buffers) (sym s) ∙ full_unmade_lists rate ceiling b (λ z. n (ap (λ (z : Step). refusal_of z.response) (sym s) ∙ z)) in
    subst (λ (z : World). (full_after z calls ≡ w') × (full_answers z calls ≡ told)) (ap around same) (full_in_turn rest)
