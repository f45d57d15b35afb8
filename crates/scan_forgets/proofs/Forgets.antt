-- Demand 3 of the code. The calls of a run are the rules' steps (Followed), so that they are a stream of scan's, and `forgets` and `forgets_accepted` speak of it.
use Prim.Native.Nat.{ℕ}
use mathlib.Core.Path.{◌≡◌, refl, sym, ap, ap₂, ◌∙◌, subst}
use mathlib.Core.List.{List, [], ◌∷◌, ◌++◌}
use native.Mathlib.Omega.{arith}
use lib.Dec.{eqb}
use lib.ListN.{length, drop}
use Rattle.answers.specs.Pick.{pick}
use Rattle.answers.specs.Refusals.{none}
use Rattle.scan.specs.Bins.{full_slack}
use Rattle.scan.specs.State.{World}
use Rattle.scan.specs.Steps.{Call, Response, near, score, rearm, discard, reset, ask, far, deed, refusal_of, called, making, Step}
use Rattle.scan.specs.Streams as streams
use Rattle.scan.specs.Streams.{Item, own, after, answers, heard, brought_by, cleaned, CleanCall, clean_call, Began, by_making, by_reset, Stream, resumed, first_known, early_of, late_of, lengths_of, from_these_alone, facts_of}
use Rattle.scan.specs.FourFacts.{AcceptedCall, accepted_call, accepted_calls, accepted_answers, four_facts_of, from_four_facts, PaperBuffers}
use Rattle.scan.proofs.Forgets.{forgets}
use Rattle.scan.proofs.FourFacts.{forgets_accepted}
use Rattle.scan_forgets.specs.Happened.{Answered, one, by_rules, Happened, Begun, made, afresh}
use Rattle.scan_forgets.specs.Statement.{FairReply, FairRun, LateReply, LateRun, Ran, answers_in, heard_in, brought_in, cleaned_in, facts_in, accepted_in, accepted_answers_in, four_facts_in, CodeForgets, CodeForgetsAccepted}
use Rattle.scan_forgets.proofs.Made.{new_steps}
use Rattle.scan_forgets.proofs.Runs.{after_calls}
use Rattle.scan_forgets.proofs.Followed.{Followed, followed, in_turn}

abbrev owned : List Call → List Item
owned [] = []
owned (c ∷ calls) = own c ∷ owned calls

-- ---- the calls as the rules answer them, and the stream of them

after_is : (calls : List Call) (w : World) → after full_slack w (owned calls) ≡ after_calls w calls
unfolding after after_calls
after_is [] w = refl
after_is (c ∷ calls) w = after_is calls (called full_slack w c).world

answers_are : (calls : List Call) (w : World) → answers_in (by_rules w calls) ≡ answers full_slack w (owned calls)
unfolding answers_in by_rules answers
answers_are [] w = refl
answers_are (c ∷ calls) w = ap (λ (l : List Response). (called full_slack w c).response ∷ l) (answers_are calls (called full_slack w c).world)

brought_is : (c : Call) (w : World) → brought_in c (called full_slack w c).response ≡ brought_by full_slack w c
brought_is (far xs) w = refl
brought_is (deed d) w = refl

heard_are : (calls : List Call) (w : World) → heard_in (by_rules w calls) ≡ heard full_slack w (owned calls)
unfolding heard_in by_rules heard
heard_are [] w = refl
heard_are (c ∷ calls) w = λ i. brought_is c w i ++ heard_are calls (called full_slack w c).world i

cleaned_are : (known : ℕ) (calls : List Call) (w : World) → cleaned_in known (by_rules w calls) ≡ cleaned full_slack known w (owned calls)
unfolding cleaned_in by_rules cleaned
cleaned_are known [] w = refl
cleaned_are known (c ∷ calls) w = ap (λ (l : List CleanCall). clean_call known w c ∷ l) (cleaned_are known calls (called full_slack w c).world)

accepted_are : (calls : List Call) (w : World) → accepted_in (by_rules w calls) ≡ accepted_calls full_slack w (owned calls)
unfolding accepted_in by_rules accepted_calls
accepted_are [] w = refl
accepted_are (c ∷ calls) w = ap (λ (l : List AcceptedCall). pick (eqb (refusal_of (called full_slack w c).response) none) (accepted_call c ∷ l) l) (accepted_are calls (called full_slack w c).world)

accepted_answers_are : (calls : List Call) (w : World) → accepted_answers_in (by_rules w calls) ≡ accepted_answers full_slack w (owned calls)
unfolding accepted_answers_in by_rules accepted_answers
accepted_answers_are [] w = refl
accepted_answers_are (c ∷ calls) w = ap (λ (l : List Response). pick (eqb (refusal_of (called full_slack w c).response) none) ((called full_slack w c).response ∷ l) l) (accepted_answers_are calls (called full_slack w c).world)

-- ---- what the calls keep to

fair_call : (c : Call) (w : World) → FairReply c (called full_slack w c).response → streams.FairCall full_slack w c
fair_call (far xs) w f = f
fair_call (deed (near x index)) w f = f
fair_call (deed score) w f = tt
fair_call (deed rearm) w f = tt
fair_call (deed discard) w f = tt
fair_call (deed reset) w f = f
fair_call (deed (ask q)) w f = tt

fair_are : (calls : List Call) (w : World) → FairRun (by_rules w calls) → streams.Fair full_slack w (owned calls)
unfolding by_rules
fair_are [] w f = tt
fair_are (c ∷ calls) w f = (fair_call c w f.0, fair_are calls (called full_slack w c).world f.1)

late_call : (block : ℕ) (c : Call) (w : World) → LateReply block w c (called full_slack w c).response → streams.LateCall full_slack block w c
late_call block (far xs) w l = tt
late_call block (deed (near x index)) w l = l
late_call block (deed score) w l = tt
late_call block (deed rearm) w l = tt
late_call block (deed discard) w l = tt
late_call block (deed reset) w l = tt
late_call block (deed (ask q)) w l = tt

late_are : (block : ℕ) (calls : List Call) (w : World) → LateRun block (by_rules w calls) → streams.Late full_slack block w (owned calls)
unfolding by_rules
late_are block [] w l = tt
late_are block (c ∷ calls) w l = (late_call block c w l.0, late_are block calls (called full_slack w c).world l.1)

-- ---- the beginning, and the rearm

-- a single call, from what its calls are by the rules
abbrev first : Answered → List Answered → Answered
first a [] = a
first a (b ∷ rest) = b

call_is : (w w' : World) (c : Call) (r : Response) (calls : List Call) → one w c r ≡ by_rules w calls → after_calls w calls ≡ w' → ((called full_slack w c).response ≡ r) × ((called full_slack w c).world ≡ w')
unfolding by_rules after_calls
call_is w w' c r [] t e = let z : ◌≡◌ {A = ℕ} 1 0 = ap length t in absurd (omega arith)
call_is w w' c r (d ∷ []) t e =
    let a = ap (first (record { handed = w; call = c; response = r })) t in
    let same : c ≡ d = ap (λ (z : Answered). z.call) a in
    (ap (λ (z : Call). (called full_slack w z).response) same ∙ sym (ap (λ (z : Answered). z.response) a), ap (λ (z : Call). (called full_slack w z).world) same ∙ e)
call_is w w' c r (d ∷ d' ∷ calls) t e = let z = ap length t in absurd (omega arith)

happened : {w w' : World} {c : Call} {r : Response} → Happened w (one w c r) w' → ((called full_slack w c).response ≡ r) × ((called full_slack w c).world ≡ w')
happened {w} {w'} {c} {r} h = let f = followed h in call_is w w' c r f.calls f.answered f.ends

began : (rate ceiling : ℕ) (w : World) → Begun rate ceiling w → Began full_slack rate ceiling w
began rate ceiling w (made f b p q e l a) =
    let s = new_steps f b e l ∙ ap₂ {A = ℕ} {B = ℕ} (λ (x y : ℕ). making full_slack x y b) (sym p) (sym q) in
    subst (Began full_slack rate ceiling) (ap (λ (z : Step). z.world) (sym s)) (by_making b (ap (λ (z : Step). refusal_of z.response) (sym s) ∙ a))
began rate ceiling w (afresh v _ r p q h a) =
    let s = happened h in
    subst (Began full_slack rate ceiling) s.1 (by_reset v p q (ap refusal_of s.0 ∙ a))

-- ---- the run as a stream

-- a run, with the rules' steps in the place of the contracts
pub record Traced (rate ceiling block : ℕ) (w e v u : World) (earlier later : List Answered) : Type 0 where
  pub began : Began full_slack rate ceiling w
  pub before : Followed w earlier e
  pub fair : FairRun earlier
  pub rearms : refusal_of (called full_slack e (deed rearm)).response ≡ none
  pub resumes : (called full_slack e (deed rearm)).world ≡ v
  pub since : Followed v later u
  pub fair_since : FairRun later
  pub late : LateRun block later

pub traced : {rate ceiling block : ℕ} {w e v u : World} {earlier later : List Answered} → Ran rate ceiling block w e v u earlier later → Traced rate ceiling block w e v u earlier later
traced {rate} {ceiling} {block} {w} r =
    let s = happened r.rearm in
    record {
      began = began rate ceiling w r.begun;
      before = in_turn r.before;
      fair = r.fair;
      rearms = ap refusal_of s.0 ∙ r.rearms;
      resumes = s.1;
      since = in_turn r.since;
      fair_since = r.fair_since;
      late = r.late;
    }

module _ (rate ceiling block : ℕ) (w e v u : World) (earlier later : List Answered) (r : Traced rate ceiling block w e v u earlier later) where
  abbrev before : List Call
  before = r.before.calls

  abbrev since : List Call
  since = r.since.calls

  at : after full_slack w (owned before) ≡ e
  at = after_is before w ∙ r.before.ends

  resumes : resumed full_slack w (owned before) ≡ v
  resumes = ap (λ (z : World). (called full_slack z (deed rearm)).world) at ∙ r.resumes

  stream : Stream full_slack rate ceiling block w (owned before) (owned since)
  stream =
      record {
        began = r.began;
        fair = fair_are before w (subst FairRun r.before.answered r.fair);
        rearms = ap (λ (z : World). refusal_of (called full_slack z (deed rearm)).response) at ∙ r.rearms;
        fair_since = subst (λ (z : World). streams.Fair full_slack z (owned since)) (sym resumes) (fair_are since v (subst FairRun r.since.answered r.fair_since));
        late = subst (λ (z : World). streams.Late full_slack block z (owned since)) (sym resumes) (late_are block since v (subst (LateRun block) r.since.answered r.late));
      }

  -- ---- its facts and answers

  -- what the stream has since the rearm, from what the transcript has
  carried : {A : Type 0} (of : List Answered → A) (by : World → List Item → A) → ((calls : List Call) (z : World) → of (by_rules z calls) ≡ by z (owned calls)) → of later ≡ by (resumed full_slack w (owned before)) (owned since)
  carried of by are = ap of r.since.answered ∙ are since v ∙ ap (λ (z : World). by z (owned since)) (sym resumes)

  heards : heard full_slack w (owned before) ≡ heard_in earlier
  heards = sym (ap heard_in r.before.answered ∙ heard_are before w)

  pub traced_forgets : answers_in later ≡ from_these_alone full_slack (facts_in rate ceiling block w earlier later)
  traced_forgets =
      let known = first_known rate block in
      let calls = sym (carried (cleaned_in known) (cleaned full_slack known) (cleaned_are known)) in
      let facts : facts_of full_slack rate ceiling block w (owned before) (owned since) ≡ facts_in rate ceiling block w earlier later =
      λ i. record { rate = rate; ceiling = ceiling; lengths = lengths_of w.buffers; early = early_of known 0 (heards i); late = late_of known 0 (heards i); calls = calls i } in
      carried answers_in (answers full_slack) answers_are ∙ forgets full_slack rate ceiling block w (owned before) (owned since) stream ∙ ap (from_these_alone full_slack) facts

  traced_accepted : PaperBuffers rate ceiling w → accepted_answers_in later ≡ from_four_facts full_slack block (four_facts_in rate ceiling block earlier later)
  traced_accepted lengths =
      let more = sym (carried heard_in (heard full_slack) heard_are) in
      let calls = sym (carried accepted_in (accepted_calls full_slack) accepted_are) in
      let facts : four_facts_of full_slack rate ceiling block w (owned before) (owned since) ≡ four_facts_in rate ceiling block earlier later =
      λ i. record { rate = rate; ceiling = ceiling; known = drop (first_known rate block) (heards i ++ more i); count = length (heards i); calls = calls i } in
      carried accepted_answers_in (accepted_answers full_slack) accepted_answers_are
      ∙ forgets_accepted full_slack rate ceiling block w (owned before) (owned since) stream lengths
      ∙ ap (from_four_facts full_slack block) facts

-- ---- demand 3

pub code_forgets : CodeForgets
code_forgets rate ceiling block w e v u earlier later r = traced_forgets rate ceiling block w e v u earlier later (traced r)

pub code_forgets_accepted : CodeForgetsAccepted
code_forgets_accepted rate ceiling block w e v u earlier later r lengths = traced_accepted rate ceiling block w e v u earlier later (traced r) lengths
