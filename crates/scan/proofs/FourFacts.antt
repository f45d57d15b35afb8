-- Demand 3 from four facts alone: a refused call changes nothing, so that a stream's accepted calls are a stream of their own, and demand 3 holds of that one.
use Prim.Native.Nat.{ℕ, zero, suc, ◌+◌, ◌-◌, min}
use mathlib.Core.Path.{◌≡◌, refl, sym, ap, ◌∙◌, subst}
use mathlib.Core.List.{List, [], ◌∷◌, ◌++◌, append_assoc}
use mathlib.Core.Bool.{true, false}
use native.Mathlib.Omega.{arith}
use lib.ListN.{length, take, drop, length-append}
use lib.Seq.{take-append_seam, drop-drop, drop-append-add}
use lib.Ieee.{Float}
use borrow.Author.Tests.{eqb-true, eqb-false}
use Rattle.answers.specs.Pick.{pick, pick_true, pick_case}
use Rattle.answers.specs.Refusals.{none}
use Rattle.folds.specs.Sums.{all_finite}
use Rattle.scan.specs.State.{World}
use Rattle.scan.specs.Blocks.{Heard}
use Rattle.scan.specs.Calls.{FarPush, NearPush, Observation, Clearing, far_refusal, pushed_far, near_refusal, pushed_near, score_refusal, observed, clear_refusal, rearmed, discarded}
use Rattle.scan.specs.Steps.{near, score, rearm, discard, reset, ask, Call, far, deed, Response, refusal_of, called}
use Rattle.scan.specs.Streams.{Item, own, foreign, CallRefused, after, answers, heard, brought_by, FairCall, Fair, Late, CleanCall, push, does, clean_call, cleaned, from_these_alone, first_known, Began, resumed, facts_of}
use Rattle.scan.specs.FourFacts.{AcceptedCall, late_in, clean_calls, as_facts, from_four_facts, is_accepted, accepted_call, accepted_calls, accepted_answers, four_facts_of, ForgetsAccepted, ForgetsAcceptedTwo}
use Rattle.scan.proofs.Laws.{pick_both, if_refused_refused}
use Rattle.scan.proofs.Settings.{allowed}
use Rattle.scan.proofs.Masked.{take_finite}
use Rattle.scan.proofs.Numbered.{far_number, near_number, score_number, rearm_number, discard_number}
use Rattle.scan.proofs.Hears.{hear_all_accepted}
use Rattle.scan.proofs.Sound.{heard_in, Sound}
use Rattle.scan.proofs.Accepted.{far_taken}
use Rattle.scan.proofs.Contracts.{far_step, near_step, score_step, clear_step, reset_unchanged}
use Rattle.scan.proofs.Keeps.{called_sound}
use Rattle.scan.proofs.Fresh.{began, fresh_sound}
use Rattle.scan.proofs.Earlier.{call_passes, passes}
use Rattle.scan.proofs.Pushes.{unrefused}
use Rattle.scan.proofs.Forgets.{forgets}

-- ---- a refused call changes nothing

pub unchanged : (slack : ℕ) (w : World) (c : Call) → CallRefused slack w c → (called slack w c).world ≡ w
unfolding called pushed_far pushed_near observed rearmed discarded
unchanged slack w (far xs) r = ap (λ (p : FarPush). (far_step w.buffers p).world) (if_refused_refused (far_refusal slack w.scan w.buffers.envelope xs) _ _ (λ z. r ((far_number slack w xs).is ∙ z)))
unchanged slack w (deed (near x index)) r = ap (λ (p : NearPush). (near_step w.buffers p).world) (if_refused_refused (near_refusal w.scan w.buffers.levels x index) _ _ (λ z. r ((near_number slack w x index).is ∙ z)))
unchanged slack w (deed score) r = ap (λ (p : Observation). (score_step p).world) (if_refused_refused (score_refusal slack w) _ _ (λ z. r ((score_number slack w).is ∙ z)))
unchanged slack w (deed rearm) r = ap (λ (p : Clearing). (clear_step w.buffers p).world) (if_refused_refused (clear_refusal w.scan w.buffers.lag_sums) _ _ (λ z. r ((rearm_number slack w).is ∙ z)))
unchanged slack w (deed discard) r = ap (λ (p : Clearing). (clear_step w.buffers p).world) (if_refused_refused (clear_refusal w.scan w.buffers.lag_sums) _ _ (λ z. r ((discard_number slack w).is ∙ z)))
unchanged slack w (deed reset) r = reset_unchanged slack w r
unchanged slack w (deed (ask q)) r = refl

-- ---- the accepted calls of a stream, as a stream

unfoldable pub accepted_items : ℕ → World → List Item → List Item
accepted_items slack w [] = []
accepted_items slack w (own c ∷ items) = pick (is_accepted slack w c) (own c ∷ accepted_items slack (called slack w c).world items) (accepted_items slack (called slack w c).world items)
accepted_items slack w (foreign v c ∷ items) = accepted_items slack w items

module _ (slack : ℕ) where
  -- what holds after a refused call holds before it
  back : (P : World → Type 0) (w : World) (c : Call) → is_accepted slack w c ≡ false → P (called slack w c).world → P w
  back P w c t = subst P (unchanged slack w c (eqb-false (refusal_of (called slack w c).response) none t))

  items_answers : (items : List Item) (w : World) → accepted_answers slack w items ≡ answers slack w (accepted_items slack w items)
  unfolding accepted_answers answers accepted_items
  items_answers [] w = refl
  items_answers (own c ∷ items) w =
      let w' = (called slack w c).world in
      pick_both (λ (l : List Response) (i : List Item). l ≡ answers slack w i) (is_accepted slack w c) _ _ _ _
      (λ t. ap (λ (l : List Response). (called slack w c).response ∷ l) (items_answers items w'))
      (λ t. back (λ (z : World). accepted_answers slack w' items ≡ answers slack z (accepted_items slack w' items)) w c t (items_answers items w'))
  items_answers (foreign v c ∷ items) w = items_answers items w

  items_fair : (items : List Item) (w : World) → Fair slack w items → Fair slack w (accepted_items slack w items)
  unfolding accepted_items
  items_fair [] w f = tt
  items_fair (own c ∷ items) w f =
      let w' = (called slack w c).world in
      pick_case (Fair slack w) (is_accepted slack w c) _ _ (λ t. (f.0, items_fair items w' f.1)) (λ t. back (λ (z : World). Fair slack z (accepted_items slack w' items)) w c t (items_fair items w' f.1))
  items_fair (foreign v c ∷ items) w f = items_fair items w f.1

  items_late : (block : ℕ) (items : List Item) (w : World) → Late slack block w items → Late slack block w (accepted_items slack w items)
  unfolding accepted_items
  items_late block [] w l = tt
  items_late block (own c ∷ items) w l =
      let w' = (called slack w c).world in
      pick_case (Late slack block w) (is_accepted slack w c) _ _ (λ t. (l.0, items_late block items w' l.1)) (λ t. back (λ (z : World). Late slack block z (accepted_items slack w' items)) w c t (items_late block items w' l.1))
  items_late block (foreign v c ∷ items) w l = items_late block items w l

-- ---- the samples of a push, out of all that the stream accepted

take_drop : (k : ℕ) (xs ys : List Float) → take (length xs - k) (drop k (xs ++ ys)) ≡ drop k xs
take_drop zero xs ys = let e : length xs - 0 ≡ length xs = omega arith in ap (λ (n : ℕ). take n (xs ++ ys)) e ∙ take-append_seam xs ys
take_drop (suc k) [] ys = let e : 0 - suc k ≡ 0 = omega arith in ap (λ (n : ℕ). take n (drop (suc k) ys)) e
take_drop (suc k) (x ∷ xs) ys = let e : suc (length xs) - suc k ≡ length xs - k = omega arith in ap (λ (n : ℕ). take n (drop k (xs ++ ys))) e ∙ take_drop k xs ys

late_part : (first m : ℕ) (all before xs after : List Float) → all ≡ before ++ (xs ++ after) → length before ≡ m → late_in first (drop first all) m (length xs) ≡ drop (first - m) xs
late_part first m all before xs after e l =
    let n : first + (m - first) ≡ length before + (first - m) = omega arith in
    ap (take (length xs - (first - m)))
    (drop-drop (m - first) first all ∙ ap (λ (k : ℕ). drop k all) n ∙ ap (drop (length before + (first - m))) e ∙ drop-append-add before (xs ++ after) (first - m))
    ∙ take_drop (first - m) xs after

module _ (slack : ℕ) where
  -- the samples accepted grow by those that a call brings
  grows : (w : World) (c : Call) → Sound slack w → FairCall slack w c → (called slack w c).world.scan.far.accepted ≡ w.scan.far.accepted + length (brought_by slack w c)
  grows w c s f = ap (λ (h : Heard). h.far.accepted) (call_passes slack w s c f).heard ∙ hear_all_accepted slack w.scan.geometry (heard_in w) (brought_by slack w c)

  brought : (w : World) (xs : List Float) → is_accepted slack w (far xs) ≡ true → brought_by slack w (far xs) ≡ xs
  brought w xs t = pick_true (is_accepted slack w (far xs)) xs [] t

  module _ (first : ℕ) (all : List Float) where
    abbrev known : List Float
    known = drop first all

    -- One accepted call, with what is accepted before and after it. The samples of a push are finite, so that nothing is left to say of the early ones but their number.
    call_clean : (w : World) (c : Call) (before after : List Float) (calls : List AcceptedCall) → is_accepted slack w c ≡ true → Sound slack w → FairCall slack w c
        → all ≡ before ++ (brought_by slack w c ++ after) → length before ≡ w.scan.far.accepted
        → clean_calls first known w.scan.far.accepted (accepted_call c ∷ calls) ≡ clean_call first w c ∷ clean_calls first known (called slack w c).world.scan.far.accepted calls
    unfolding clean_calls
    call_clean w (far xs) before after calls t s f e l =
        let n = w.scan.far.accepted in
        let late : late_in first known n (length xs) ≡ drop (first - n) xs = late_part first n all before xs after (e ∙ ap (λ (z : List Float). before ++ (z ++ after)) (brought w xs t)) l in
        let fine : true ≡ all_finite (take (first - n) xs) = sym (take_finite (first - n) xs (far_taken slack w xs (unrefused slack w xs (eqb-true (refusal_of (called slack w (far xs)).response) none t))).finite) in
        let m : n + length xs ≡ (called slack w (far xs)).world.scan.far.accepted = sym (grows w (far xs) s f ∙ ap (λ (z : List Float). n + length z) (brought w xs t)) in
        λ i. push (min (first - n) (length xs)) (fine i) (late i) ∷ clean_calls first known (m i) calls
    call_clean w (deed d) before after calls t s f e l =
        let m : w.scan.far.accepted ≡ (called slack w (deed d)).world.scan.far.accepted = sym (grows w (deed d) s f ∙ omega arith) in
        λ i. does d ∷ clean_calls first known (m i) calls

    items_clean : (items : List Item) (w : World) (before : List Float) → Sound slack w → Fair slack w items → all ≡ before ++ heard slack w items → length before ≡ w.scan.far.accepted
        → clean_calls first known w.scan.far.accepted (accepted_calls slack w items) ≡ cleaned slack first w (accepted_items slack w items)
    unfolding clean_calls accepted_calls cleaned accepted_items heard
    items_clean [] w before s f e l = refl
    items_clean (own c ∷ items) w before s f e l =
        let w' = (called slack w c).world in
        let more = brought_by slack w c in
        let rest = items_clean items w' (before ++ more) (called_sound slack w s c f.0) f.1 (e ∙ sym (append_assoc before more (heard slack w' items))) (length-append before more ∙ ap (λ (n : ℕ). n + length more) l ∙ sym (grows w c s f.0)) in
        pick_both (λ (l : List AcceptedCall) (i : List Item). clean_calls first known w.scan.far.accepted l ≡ cleaned slack first w i) (is_accepted slack w c) _ _ _ _
        (λ t. call_clean w c before (heard slack w' items) (accepted_calls slack w' items) t s f.0 e l ∙ ap (λ (l : List CleanCall). clean_call first w c ∷ l) rest)
        (λ t. back slack (λ (z : World). clean_calls first known z.scan.far.accepted (accepted_calls slack w' items) ≡ cleaned slack first z (accepted_items slack w' items)) w c t rest)
    items_clean (foreign v c ∷ items) w before s f e l = items_clean items w before s f.1 e l

-- the state and buffers from the rearm on are sound, and every far sample accepted by then was heard
at_rearm : (slack rate ceiling : ℕ) (w : World) (earlier : List Item) → Began slack rate ceiling w → Fair slack w earlier
    → Sound slack (resumed slack w earlier) × (length (heard slack w earlier) ≡ (resumed slack w earlier).scan.far.accepted)
at_rearm slack rate ceiling w earlier b f =
    let q = began slack rate ceiling w b in
    let e = after slack w earlier in
    let o = passes slack earlier w (subst (Sound slack) (sym q.is) (fresh_sound slack _ w.buffers (allowed rate ceiling q.inside))) f in
    let none_yet : w.scan.far.accepted ≡ 0 = ap (λ (z : World). z.scan.far.accepted) q.is in
    let by-then : e.scan.far.accepted ≡ w.scan.far.accepted + length (heard slack w earlier) = ap (λ (h : Heard). h.far.accepted) o.1.heard ∙ hear_all_accepted slack w.scan.geometry (heard_in w) (heard slack w earlier) in
    (called_sound slack e o.0 (deed rearm) tt, omega (arith, grows slack e (deed rearm) o.0 tt))

-- ---- the statements

pub forgets_accepted : ForgetsAccepted
forgets_accepted slack rate ceiling block w earlier later s e =
    let first = first_known rate block in
    let v = resumed slack w earlier in
    let xs = heard slack w earlier in
    let ys = heard slack v later in
    let items = accepted_items slack v later in
    let late : drop (first - 0) xs ≡ late_in first (drop first (xs ++ ys)) 0 (length xs) = sym (late_part first 0 (xs ++ ys) [] xs ys refl refl) in
    let o = at_rearm slack rate ceiling w earlier s.began s.fair in
    let calls : cleaned slack first v items ≡ clean_calls first (drop first (xs ++ ys)) (length xs) (accepted_calls slack v later) =
    sym (subst (λ (n : ℕ). clean_calls first (drop first (xs ++ ys)) n (accepted_calls slack v later) ≡ cleaned slack first v items) (sym o.1) (items_clean slack first (xs ++ ys) later v xs o.0 s.fair_since refl o.1)) in
    let facts : facts_of slack rate ceiling block w earlier items ≡ as_facts block (four_facts_of slack rate ceiling block w earlier later) =
    λ i. record { rate = rate; ceiling = ceiling; lengths = e i; early = min (first - 0) (length xs); late = late i; calls = calls i } in
    items_answers slack later v
    ∙ forgets slack rate ceiling block w earlier items (record { began = s.began; fair = s.fair; rearms = s.rearms; fair_since = items_fair slack later v s.fair_since; late = items_late slack block later v s.late })
    ∙ ap (from_these_alone slack) facts

pub forgets_accepted_two : ForgetsAcceptedTwo
forgets_accepted_two slack rate ceiling block w w' earlier earlier' later later' s s' p p' e =
    forgets_accepted slack rate ceiling block w earlier later s p ∙ ap (from_four_facts slack block) e ∙ sym (forgets_accepted slack rate ceiling block w' earlier' later' s' p')
