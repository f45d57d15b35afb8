-- How many samples of a run pass follows from the facts: the stream is continued by the samples that the run tries, one by one, and demand 3 holds of that stream too.
use Prim.Native.Nat.{ℕ, ◌+◌}
use mathlib.Core.Path.{◌≡◌, refl, sym, ap, ◌∙◌, subst}
use mathlib.Core.List.{List, [], ◌∷◌, ◌++◌}
use mathlib.Core.Bool.{Bool}
use lib.ListN.{length, drop}
use lib.Seq.{drop-append_seam}
use lib.Ieee.{Float}
use Rattle.answers.specs.Numbers.{next_long_count}
use Rattle.answers.specs.Pick.{pick, pick_true}
use Rattle.scan.specs.Bins.{full_slack}
use Rattle.scan.specs.State.{World}
use Rattle.scan.specs.Steps.{Call, Response, near, deed, called}
use Rattle.scan.specs.Streams.{CleanCall, as_call, clean_world, clean_answers, clean_call, from_these_alone, first_known}
use Rattle.scan.proofs.Laws.{pick_both}
use Rattle.scan_runs.specs.declared.Ran.{Ran}
use Rattle.scan_runs.specs.Runs.{Run, rests, further, ran}
use Rattle.scan_forgets.specs.Happened.{Answered, by_rules}
use Rattle.scan_forgets.specs.Statement.{FairRun, LateRun, answers_in, cleaned_in, facts_in, passing, tried, clean_after, CodeForgetsPassed}
use Rattle.scan_forgets.proofs.Runs.{after_calls}
use Rattle.scan_forgets.proofs.Followed.{then}
use Rattle.scan_forgets.proofs.Forgets.{Traced, traced, traced_forgets}

-- ---- a transcript with more calls

answers_append : (t more : List Answered) → answers_in (t ++ more) ≡ answers_in t ++ answers_in more
unfolding answers_in
answers_append [] more = refl
answers_append (a ∷ t) more = ap (λ (l : List Response). a.response ∷ l) (answers_append t more)

cleaned_append : (known : ℕ) (t more : List Answered) → cleaned_in known (t ++ more) ≡ cleaned_in known t ++ cleaned_in known more
unfolding cleaned_in
cleaned_append known [] more = refl
cleaned_append known (a ∷ t) more = ap (λ (l : List CleanCall). clean_call known a.handed a.call ∷ l) (cleaned_append known t more)

fair_append : (t more : List Answered) → FairRun t → FairRun more → FairRun (t ++ more)
fair_append [] more f g = g
fair_append (a ∷ t) more f g = (f.0, fair_append t more f.1 g)

late_append : (block : ℕ) (t more : List Answered) → LateRun block t → LateRun block more → LateRun block (t ++ more)
late_append block [] more f g = g
late_append block (a ∷ t) more f g = (f.0, late_append block t more f.1 g)

clean_append : (calls more : List CleanCall) (w : World) → clean_answers full_slack w (calls ++ more) ≡ clean_answers full_slack w calls ++ clean_answers full_slack (clean_after w calls) more
unfolding clean_answers clean_after
clean_append [] more w = refl
clean_append (c ∷ calls) more w = ap (λ (l : List Response). (called full_slack w (as_call c)).response ∷ l) (clean_append calls more (called full_slack w (as_call c)).world)

-- two lists that begin alike end alike
rest_alike : (a b : List Response) (x y : List Response) → a ≡ b → a ++ x ≡ b ++ y → x ≡ y
rest_alike a b x y e q =
    sym (drop-append_seam a x) ∙ ap (drop (length a)) q ∙ ap (λ (z : List Response). drop (length z) (b ++ y)) e ∙ drop-append_seam b y

-- ---- two runs whose tries are answered alike

abbrev passed_in : World → List Float → ℕ → ℕ
passed_in w xs index = (ran w.scan w.buffers.levels xs index).passed

abbrev head : List Response → Response → Response
head [] r = r
head (x ∷ xs) r = x

abbrev tail : List Response → List Response
tail [] = []
tail (x ∷ xs) = xs

same_passed : (known : ℕ) (xs : List Float) (u c : World) (index : ℕ) → answers_in (by_rules u (tried u xs index)) ≡ clean_answers full_slack c (cleaned_in known (by_rules u (tried u xs index))) → passed_in u xs index ≡ passed_in c xs index
unfolding ran answers_in by_rules tried clean_answers cleaned_in called
same_passed known [] u c index e = refl
same_passed known (x ∷ xs) u c index e =
    let u' = (called full_slack u (deed (near x index))).world in
    let c' = (called full_slack c (deed (near x index))).world in
    let t = passing (called full_slack u (deed (near x index))).response in
    let more = next_long_count index in
    let tests : t ≡ passing (called full_slack c (deed (near x index))).response = ap (λ (l : List Response). passing (head l (called full_slack u (deed (near x index))).response)) e in
    let rest : answers_in (by_rules u' (pick t (tried u' xs more) [])) ≡ clean_answers full_slack c' (cleaned_in known (by_rules u' (pick t (tried u' xs more) []))) = ap tail e in
    subst (λ (z : Bool). (pick t (further 1 (ran u'.scan u'.buffers.levels xs more)) (rests u.scan u.buffers.levels)).passed ≡ (pick z (further 1 (ran c'.scan c'.buffers.levels xs more)) (rests c.scan c.buffers.levels)).passed) tests
    (pick_both (λ (a b : Run). a.passed ≡ b.passed) t _ _ _ _
    (λ h. ap (λ (n : ℕ). 1 + n) (same_passed known xs u' c' more (subst (λ (l : List Call). answers_in (by_rules u' l) ≡ clean_answers full_slack c' (cleaned_in known (by_rules u' l))) (pick_true t (tried u' xs more) [] h) rest)))
    (λ h. refl))

pub code_forgets_passed : CodeForgetsPassed
unfolding from_these_alone clean_world
code_forgets_passed rate ceiling block w e v u earlier later r f s l fair late =
    let xs = f.given.1.1.0.now in
    let index = f.given.1.1.1.0 in
    let t = by_rules u (tried u xs index) in
    let known = first_known rate block in
    let clean = clean_world full_slack (facts_in rate ceiling block w earlier later) in
    let p = traced r in
    let longer : Traced rate ceiling block w e v (after_calls u (tried u xs index)) earlier (later ++ t) =
    record {
      began = p.began;
      before = p.before;
      fair = p.fair;
      rearms = p.rearms;
      resumes = p.resumes;
      since = then p.since (record { calls = tried u xs index; answered = refl; ends = refl });
      fair_since = fair_append later t p.fair_since fair;
      late = late_append block later t p.late late;
    } in
    let whole : answers_in later ++ answers_in t ≡ clean_answers full_slack clean (cleaned_in known later) ++ clean_answers full_slack (clean_after clean (cleaned_in known later)) (cleaned_in known t) =
    sym (answers_append later t)
    ∙ traced_forgets rate ceiling block w e v (after_calls u (tried u xs index)) earlier (later ++ t) longer
    ∙ ap (clean_answers full_slack clean) (cleaned_append known later t)
    ∙ clean_append (cleaned_in known later) (cleaned_in known t) clean in
    ap (λ (z : Ran). z.passed) f.admitted.0
    ∙ sym (λ i. (ran (s i) (l i) xs index).passed)
    ∙ same_passed known xs u (clean_after clean (cleaned_in known later)) index (rest_alike _ _ _ _ (traced_forgets rate ceiling block w e v u earlier later p) whole)
