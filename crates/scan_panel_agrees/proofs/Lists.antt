-- Change request j over lists of calls: the profile's answers are the full scan's up to the first parting, and again from each rearm and each reset on.
use Prim.Native.Nat.{ℕ, zero, suc, ◌<◌}
use mathlib.Core.Path.{◌≡◌, refl, sym, ap, ap₂, ◌∙◌, subst, subst₂}
use mathlib.Core.List.{List, [], ◌∷◌}
use mathlib.Core.Bool.{Bool, true, false, not, false≢true}
use native.Mathlib.Omega.{arith}
use lib.Dec.{eqb, lit<}
use lib.ListN.{length, take}
use borrow.Author.Tests.{eqb-true, not-true}
use Rattle.answers.specs.Pick.{pick, both, either, pick_true, pick_case}
use Rattle.answers.specs.Refusals.{none, outside_table, wrong_length}
use Rattle.scan.specs.Bins.{full_slack, in_table, geometry_of, envelope_len, near_len, window_len, prefix_len, lags}
use Rattle.scan.specs.State.{Buffers, World}
use Rattle.scan.specs.Calls.{Restart, all_lengths, restart_lengths, made, making_refusal}
use Rattle.scan.specs.Steps.{near, score, rearm, discard, reset, ask, Call, far, deed, Response, changes, scores, Step, step, making}
use Rattle.scan.specs.declared.Scoring.TheVariants as scoring
use Rattle.scan.specs.declared.Geometry.{Geometry}
use Rattle.answers.specs.declared.Change.TheVariants as change
use Rattle.scan.proofs.Laws.{if_refused_case, both_and, both_left, both_right}
use Rattle.scan.proofs.Settings.{allowed}
use Rattle.scan.proofs.Accepted.{RightLengths}
use Rattle.scan.proofs.Contracts.{reset_step}
use Rattle.scan.proofs.Fresh.{fresh, fresh_sound}
use Rattle.scan_panel.specs.Panel.{panel_slack, panel_table, allows, panel_making_refusal, panel_made, panel_making}
use Rattle.scan_panel.specs.Feeds.{Fed, call, run, Answer, says, counts, Feeding, fed, TypedCall, Typed, AllTyped, panel_after, panel_answers}
use Rattle.scan_panel.proofs.Rules.{none_fits}
use Rattle.scan_panel.proofs.Streams.{panel_fed_lem, fed_allows}
use Rattle.scan_panel_agrees.specs.Agreement.{parting, splitting, parts_at, FarAlike, Agree, anew_call, anew, full_after, full_answers, until, together_after, Claim, Claims, Start, full_new, panel_new, AgreesUpTo, PanelAgrees, PanelAgreesExactly, AgreesFromNew, AgreesAnew, UncoveredThere, DiffersThere}
use Rattle.scan_panel.proofs.Panel.{panel_inside}
use Rattle.scan_panel_agrees.proofs.Own.{Own}
use Rattle.scan_panel_agrees.proofs.Partings.{Parts, partings, splittings}
use Rattle.scan_panel_agrees.proofs.Feeds.{fed_own, fed_far, fed_anew, fed_always, fed_equal, fed_agrees, fed_uncovered}
use Rattle.scan_panel_agrees.proofs.Differs.{split_differs}

-- 512 < 4,000
less : panel_slack < full_slack
less = lit< tt

-- ---- what is kept over the calls: the far sides alike always, and the whole agreement while together
record Pair (together : Bool) (w v : World) : Type 0 where
  own : Own full_slack w
  own' : Own panel_slack v
  allowed : allows v.scan ≡ true
  far_alike : FarAlike full_slack panel_slack w v
  agree : together ≡ true → Agree full_slack panel_slack w v

-- of it, what stays when the two have parted
apart : (together : Bool) (w v : World) → Pair together w v → Pair false w v
apart together w v k = record { own = k.own; own' = k.own'; allowed = k.allowed; far_alike = k.far_alike; agree = λ e. absurd (false≢true e) }

-- any call, parted or not
apart_kept : (w v : World) (f : Fed) → Typed f → Pair false w v → Pair false (fed full_slack w f).world (fed panel_slack v f).world
apart_kept w v f t k =
    record {
      own = fed_own full_slack w f t k.own;
      own' = fed_own panel_slack v f t k.own';
      allowed = fed_allows v f k.allowed;
      far_alike = fed_far full_slack panel_slack less w v k.own k.own' f t k.far_alike;
      agree = λ e. absurd (false≢true e);
    }

-- where the two agree after it
rejoin : (together : Bool) (w v : World) → Pair false w v → (together ≡ true → Agree full_slack panel_slack w v) → Pair together w v
rejoin together w v k h = record { own = k.own; own' = k.own'; allowed = k.allowed; far_alike = k.far_alike; agree = h }

-- a rearm or a reset
anew_kept : (w v : World) (f : Fed) → anew f ≡ true → Typed f → Pair false w v → Pair true (fed full_slack w f).world (fed panel_slack v f).world
anew_kept w v f e t k = rejoin true _ _ (apart_kept w v f t k) (λ q. fed_anew full_slack panel_slack less w v k.own k.own' f e k.far_alike)

call_typed : (c : Call) → anew_call c ≡ true → TypedCall c
call_typed (far xs) e = absurd (false≢true e)
call_typed (deed (near x index)) e = absurd (false≢true e)
call_typed (deed score) e = tt
call_typed (deed rearm) e = tt
call_typed (deed discard) e = tt
call_typed (deed reset) e = tt
call_typed (deed (ask r)) e = tt

anew_typed : (f : Fed) → anew f ≡ true → Typed f
anew_typed (call c) e = call_typed c e
anew_typed (run xs first) e = absurd (false≢true e)

-- any calls
pair_after_lem : (calls : List Fed) (w v : World) → AllTyped calls → Pair false w v → Pair false (full_after w calls) (panel_after v calls)
unfolding full_after panel_after
pair_after_lem [] w v t k = k
pair_after_lem (f ∷ calls) w v t k =
    subst (λ (s : Feeding). Pair false (full_after (fed full_slack w f).world calls) (panel_after s.world calls)) (sym (panel_fed_lem v f k.allowed))
    (pair_after_lem calls (fed full_slack w f).world (fed panel_slack v f).world t.1 (apart_kept w v f t.0 k))

-- where all calls come before the first parting, the first of them is none
none_here : (a : Bool) (m n : ℕ) → pick a zero (suc m) ≡ suc n → (a ≡ false) × (m ≡ n)
unfolding pick
none_here true m n e = absurd (omega arith)
none_here false m n e = (refl, omega arith)

module _ (test : World → Bool) (p : Parts full_slack panel_slack test) where
  agree_kept : (w v : World) (f : Fed) → Typed f → parts_at test w f ≡ false → Pair true w v → Pair true (fed full_slack w f).world (fed panel_slack v f).world
  agree_kept w v f t n k = rejoin true _ _ (apart_kept w v f t (apart true w v k)) (λ q. fed_agrees full_slack panel_slack less w v k.own k.own' test p (k.agree refl) f t n)

  pair_kept : (together : Bool) (w v : World) (f : Fed) → Typed f → Pair together w v → Pair (together_after test together w f) (fed full_slack w f).world (fed panel_slack v f).world
  unfolding pick
  pair_kept together w v f t k = rejoin _ _ _ (apart_kept w v f t (apart together w v k)) (go (anew f) refl)
    where
      go : (a : Bool) → anew f ≡ a → either a (both together (not (parts_at test w f))) ≡ true → Agree full_slack panel_slack (fed full_slack w f).world (fed panel_slack v f).world
      go true e h = fed_anew full_slack panel_slack less w v k.own k.own' f e k.far_alike
      go false e h =
          fed_agrees full_slack panel_slack less w v k.own k.own' test p (k.agree (both_left together _ h)) f t (not-true (parts_at test w f) (both_right together _ h))

  -- ---- call by call

  claim : (together : Bool) (w v : World) (f : Fed) → Typed f → Pair together w v → Claim test together w v f
  claim together w v f t k =
      let e = ap (λ (s : Feeding). s.answer) (panel_fed_lem v f k.allowed) in
      record {
        equal = λ q n. e ∙ fed_equal full_slack panel_slack less w v k.own k.own' test p (k.agree q) f t n;
        uncovered = λ q n. e ∙ fed_uncovered full_slack panel_slack less w v k.own k.own' test p (k.agree q) f n;
        always = λ q. e ∙ fed_always full_slack panel_slack less w v k.own k.own' f q k.far_alike;
      }

  claims : (calls : List Fed) (together : Bool) (w v : World) → AllTyped calls → Pair together w v → Claims test together w v calls
  claims [] together w v t k = tt
  claims (f ∷ calls) together w v t k = (
    claim together w v f t.0 k,
    subst (λ (s : Feeding). Claims test (together_after test together w f) (fed full_slack w f).world s.world calls) (sym (panel_fed_lem v f k.allowed)) (claims calls _ _ _ t.1 (pair_kept together w v f t.0 k)),
  )

  -- ---- as lists of answers

  equal_until : (calls : List Fed) (w v : World) → AllTyped calls → Pair true w v → take (until test w calls) (panel_answers v calls) ≡ take (until test w calls) (full_answers w calls)
  unfolding until panel_answers full_answers
  equal_until [] w v t k = refl
  equal_until (f ∷ calls) w v t k =
      rw (panel_fed_lem v f k.allowed)
      (pick_case (λ (n : ℕ). take n ((fed panel_slack v f).answer ∷ panel_answers (fed panel_slack v f).world calls) ≡ take n ((fed full_slack w f).answer ∷ full_answers (fed full_slack w f).world calls)) (parts_at test w f) _ _ (λ q. refl)
      (λ n. ap₂ {A = Answer} {B = List Answer} (λ (r : Answer) (rest : List Answer). r ∷ rest) (fed_equal full_slack panel_slack less w v k.own k.own' test p (k.agree refl) f t.0 n)
      (equal_until calls (fed full_slack w f).world (fed panel_slack v f).world t.1 (agree_kept w v f t.0 n k))))

  -- the two after calls without a parting
  pair_until : (calls : List Fed) (w v : World) → AllTyped calls → until test w calls ≡ length calls → Pair true w v → Pair true (full_after w calls) (panel_after v calls)
  unfolding until full_after panel_after
  pair_until [] w v t e k = k
  pair_until (f ∷ calls) w v t e k =
      let n = none_here (parts_at test w f) (until test (fed full_slack w f).world calls) (length calls) e in
      subst (λ (s : Feeding). Pair true (full_after (fed full_slack w f).world calls) (panel_after s.world calls)) (sym (panel_fed_lem v f k.allowed))
      (pair_until calls (fed full_slack w f).world (fed panel_slack v f).world t.1 n.1 (agree_kept w v f t.0 n.0 k))

-- ---- from new

lent_right : (slack : ℕ) (g : Geometry) (b : Buffers) → all_lengths slack g b ≡ true → RightLengths g b
lent_right slack g b all =
    let e₁ = both_right (eqb (length b.envelope) (envelope_len slack g)) _ all in
    let e₂ = both_right (eqb (length b.levels) (near_len g)) _ e₁ in
    let e₃ = both_right (eqb (length b.window) (window_len g)) _ e₂ in
    let e₄ = both_right (eqb (length b.prefix) (prefix_len g)) _ e₃ in
    let e₅ = both_right (eqb (length b.squares) (prefix_len g)) _ e₄ in
    record {
      levels = eqb-true (length b.levels) (near_len g) (both_left (eqb (length b.levels) (near_len g)) _ e₁);
      window = eqb-true (length b.window) (window_len g) (both_left (eqb (length b.window) (window_len g)) _ e₂);
      prefix = eqb-true (length b.prefix) (prefix_len g) (both_left (eqb (length b.prefix) (prefix_len g)) _ e₃);
      squares = eqb-true (length b.squares) (prefix_len g) (both_left (eqb (length b.squares) (prefix_len g)) _ e₄);
      scores = eqb-true (length b.scores) (lags g) (both_left (eqb (length b.scores) (lags g)) _ e₅);
    }

lent_restart : (slack : ℕ) (g : Geometry) (b : Buffers) → all_lengths slack g b ≡ true → restart_lengths slack g b.envelope b.lag_sums ≡ true
lent_restart slack g b all =
    let e₁ = both_right (eqb (length b.envelope) (envelope_len slack g)) _ all in
    let e₂ = both_right (eqb (length b.levels) (near_len g)) _ e₁ in
    let e₃ = both_right (eqb (length b.window) (window_len g)) _ e₂ in
    let e₄ = both_right (eqb (length b.prefix) (prefix_len g)) _ e₃ in
    let e₅ = both_right (eqb (length b.squares) (prefix_len g)) _ e₄ in
    both_and _ _ (both_left (eqb (length b.envelope) (envelope_len slack g)) _ all) (both_right (eqb (length b.scores) (lags g)) _ e₅)

module _ (rate ceiling : ℕ) (lent lent' : Buffers) (s : Start rate ceiling lent lent') where
  abbrev g : Geometry
  g = geometry_of rate ceiling

  inside : in_table rate ceiling ≡ true
  inside = panel_inside rate ceiling s.allowed

  -- neither making is refused: each leaves a new scan
  pub full_new_lem : making full_slack rate ceiling lent ≡ step (changes change.Done) (fresh full_slack g lent).scan (fresh full_slack g lent).buffers
  unfolding making made making_refusal
  full_new_lem =
      if_refused_case (λ (q : Restart). reset_step lent q ≡ step (changes change.Done) (fresh full_slack g lent).scan (fresh full_slack g lent).buffers) (making_refusal full_slack rate ceiling lent.envelope lent.lag_sums) _ _
      (λ r. absurd (r (pick_true (in_table rate ceiling) _ outside_table inside ∙ pick_true _ none wrong_length (lent_restart full_slack g lent s.wide)))) (λ z. refl)

  pub panel_new_lem : panel_making rate ceiling lent' ≡ step (changes change.Done) (fresh panel_slack g lent').scan (fresh panel_slack g lent').buffers
  unfolding panel_making panel_made panel_making_refusal
  panel_new_lem =
      if_refused_case (λ (q : Restart). reset_step lent' q ≡ step (changes change.Done) (fresh panel_slack g lent').scan (fresh panel_slack g lent').buffers) (panel_making_refusal rate ceiling lent'.envelope lent'.lag_sums) _ _
      (λ r. absurd (r (pick_true (panel_table rate ceiling) _ outside_table s.allowed ∙ pick_true _ none wrong_length (lent_restart panel_slack g lent' s.narrow)))) (λ z. refl)

  fresh_pair : Pair true (fresh full_slack g lent) (fresh panel_slack g lent')
  unfolding geometry_of
  fresh_pair =
      record {
        own = record { sound = fresh_sound full_slack g lent (allowed rate ceiling inside); lengths = right_of full_slack lent s.wide; sum = none_fits };
        own' = record { sound = fresh_sound panel_slack g lent' (allowed rate ceiling inside); lengths = right_of panel_slack lent' s.narrow; sum = none_fits };
        allowed = s.allowed;
        far_alike = alike;
        agree = λ e. record { far_alike = alike; near = refl; verdict = refl; levels = λ i l. absurd (omega arith); lag_sums = refl };
      }
    where
      right_of : (slack : ℕ) (b : Buffers) → all_lengths slack g b ≡ true → RightLengths g (fresh slack g b).buffers
      right_of slack b all = let r = lent_right slack g b all in record { levels = r.levels; window = r.window; prefix = r.prefix; squares = r.squares; scores = r.scores }

      alike : FarAlike full_slack panel_slack (fresh full_slack g lent) (fresh panel_slack g lent')
      alike = record { geometry = refl; far = refl; bins = λ j l k. absurd (omega arith) }

  new_pair_lem : Pair true (full_new rate ceiling lent) (panel_new rate ceiling lent')
  new_pair_lem = subst₂ (λ (a b : Step). Pair true a.world b.world) (sym full_new_lem) (sym panel_new_lem) fresh_pair

-- ---- the statements

pub agrees_up_to : (test : World → Bool) → Parts full_slack panel_slack test → AgreesUpTo test
agrees_up_to test p rate ceiling lent lent' s calls t = claims test p calls true _ _ t (new_pair_lem rate ceiling lent lent' s)

pub panel_agrees : PanelAgrees
panel_agrees = agrees_up_to (parting full_slack panel_slack) (partings full_slack panel_slack less)

pub panel_agrees_exactly : PanelAgreesExactly
panel_agrees_exactly = agrees_up_to (splitting full_slack panel_slack) (splittings full_slack panel_slack less)

pub agrees_from_new : AgreesFromNew
agrees_from_new rate ceiling lent lent' s calls t = equal_until (parting full_slack panel_slack) (partings full_slack panel_slack less) calls _ _ t (new_pair_lem rate ceiling lent lent' s)

pub agrees_anew : AgreesAnew
agrees_anew rate ceiling lent lent' s earlier later f e t u =
    let k = pair_after_lem earlier _ _ t (apart true _ _ (new_pair_lem rate ceiling lent lent' s)) in
    equal_until (parting full_slack panel_slack) (partings full_slack panel_slack less) later _ _ u
    (subst (λ (z : Feeding). Pair true (fed full_slack (full_after (full_new rate ceiling lent) earlier) f).world z.world) (sym (panel_fed_lem _ f k.allowed)) (anew_kept _ _ f e (anew_typed f e) k))

pub uncovered_there : UncoveredThere
uncovered_there rate ceiling lent lent' s calls t e p =
    let k = pair_until (parting full_slack panel_slack) (partings full_slack panel_slack less) calls _ _ t e (new_pair_lem rate ceiling lent lent' s) in
    ap (λ (z : Feeding). z.answer) (panel_fed_lem _ (call (deed score)) k.allowed)
    ∙ fed_uncovered full_slack panel_slack less _ _ k.own k.own' (parting full_slack panel_slack) (partings full_slack panel_slack less) (k.agree refl) (call (deed score)) p

-- the response in an answer to a single call
abbrev said : Answer → Response → Response
said (says r) other = r
said (counts n) other = other

pub differs_there : DiffersThere
unfolding fed
differs_there rate ceiling lent lent' s calls t e p q =
    let k = pair_until (splitting full_slack panel_slack) (splittings full_slack panel_slack less) calls _ _ t e (new_pair_lem rate ceiling lent lent' s) in
    let a = sym (ap (λ (z : Feeding). z.answer) (panel_fed_lem _ (call (deed score)) k.allowed)) ∙ q in
    split_differs full_slack panel_slack less _ _ (k.agree refl) k.own k.own' p (ap (λ (z : Answer). said z (scores (scoring.Refused 0))) a)
