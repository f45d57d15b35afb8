-- Single pushes of a run's samples, one after the other: `RunIsSingles`, `RefusedIff` and their like.
use Prim.Native.Nat.{ℕ, zero, suc, ◌+◌, ◌-◌, ◌≤◌, ◌<◌}
use mathlib.Core.Path.{◌≡◌, refl, sym, ap, ◌∙◌, subst}
use mathlib.Core.List.{List, [], ◌∷◌, ◌++◌}
use mathlib.Core.Bool.{Bool, true, false, not}
use native.Mathlib.Omega.{arith}
use lib.Dec.{eqb}
use lib.ListN.{length, take, set, replicate, length-set}
use lib.Seq.{length-take-le}
use lib.Ieee.{Float}
use lib.Ieee.Scale.{finite}
use borrow.Author.Tests.{eqb-true, eqb-false, eq-eqb, ne_eqb}
use Rattle.answers.specs.Pick.{pick, both, either, pick_true, pick_false, pick_case, pick_all}
use Rattle.answers.specs.Refusals.{require, none, not_finite, frame_waits}
use Rattle.folds.specs.Sums.{all_finite}
use Rattle.fine.specs.State.{Sound, span_of, full, first_refusals}
use Rattle.fine.specs.declared.Fine.{Fine}
use Rattle.fine.proofs.Laws.{both_hold, accepted, sound_accepted}
use Rattle.fine_gate.specs.Gate.{NearPush, near_push, is_frame, near_refusal, took_one, pushed_near}
use Rattle.fine_gate.specs.declared.Taking.{Taking}
use Rattle.fine_gate.specs.declared.Taking.TheVariants as taking
use Rattle.fine_handover.specs.declared.RunTaking.{RunTaking}
use Rattle.fine_handover.specs.declared.RunTaking.TheVariants as run
use Rattle.fine_handover.specs.Handover.{NearRun, takes, part, run_refusal, filled_by, handed}
use Rattle.fine_handover.specs.Singles.{Pushes, preceded, singles, taken_in, singly, SameAsSingles, RunIsSingles, is_refused, one_refused, Takes, RefusedIff, RefusedFirst, RefusedWaiting}
use Rattle.fine_handover.specs.Ready.{longer_by}
use Rattle.fine_handover.proofs.Filling.{filled_state}
use Rattle.fine_handover.proofs.Calls.{room, takes_samples, part_finite, is_handed, is_empty}

-- ---- one sample, in a state that takes samples

module _ (s : Fine) (near : List Float) (x : Float) (k : Takes s near) where
  refusal_is : near_refusal s (length near) x ≡ require (finite x) not_finite none
  unfolding near_refusal
  refusal_is =
      pick_true (eqb (first_refusals s (is_frame (span_of s) (length near))) 0) _ _ (eq-eqb _ 0 k.judged)
      ∙ pick_true (not (full s)) _ _ (ap not k.unfilled)

  pushes : finite x ≡ true → pushed_near s near x ≡ near_push (took_one s) (set near s.frames.len x)
  unfolding pushed_near
  pushes f = pick_true (eqb (near_refusal s (length near) x) 0) _ _ (eq-eqb _ 0 (refusal_is ∙ pick_true (finite x) _ _ f))

  refuses : finite x ≡ false → is_refused (pushed_near s near x).took.answer ≡ true
  unfolding pushed_near
  refuses f =
      let e : near_refusal s (length near) x ≡ 4 = refusal_is ∙ pick_false (finite x) _ _ f in
      ap (λ (p : NearPush). is_refused p.took.answer) (pick_false (eqb (near_refusal s (length near) x) 0) _ _ (ne_eqb (near_refusal s (length near) x) 0 (λ (z : near_refusal s (length near) x ≡ 0). omega (arith, e, z))))

  -- the state after it, where the frame wants more
  next_takes : s.frames.len + 1 < s.lengths.frame → Takes (took_one s).fine (set near s.frames.len x)
  unfolding took_one
  next_takes more =
      let a = accepted s _ k.judged in
      let h = a.1 in
      let sound : Sound (took_one s).fine = record { least = h.least; most = h.most; transform = h.transform; frame = h.frame; origin = h.origin; near = omega arith } in
      let fit : is_frame (span_of s) (length (set near s.frames.len x)) ≡ true = ap (is_frame (span_of s)) (length-set near s.frames.len x) ∙ a.0 in
      record {
        judged = ap (first_refusals (took_one s).fine) fit ∙ sound_accepted (took_one s).fine sound;
        unfilled = ne_eqb (s.frames.len + 1) s.lengths.frame (λ e. omega (arith, e, more));
      }

-- ---- what is carried from sample to sample: the samples left fit into the frame

pub record Along (s : Fine) (near xs : List Float) : Type 0 where
  pub takes : 0 < length xs → Takes s near
  pub within : s.frames.len + length xs ≤ s.lengths.frame

along_next : (s : Fine) (near : List Float) (x : Float) (xs : List Float) → Along s near (x ∷ xs) → Along (took_one s).fine (set near s.frames.len x) xs
unfolding took_one
along_next s near x xs a =
    record {
      takes = λ some. next_takes s near x (a.takes (omega arith)) (omega (arith, some, a.within));
      within = omega (arith, a.within);
    }

-- ---- the answers

-- of k samples, the first of which stands at this place of the frame
unfoldable answers_at : ℕ → ℕ → ℕ → List Taking
answers_at place frame zero = []
answers_at place frame (suc k) = pick (eqb (place + 1) frame) taking.Full taking.Taken ∷ answers_at (place + 1) frame k

answers_few : (place frame k : ℕ) → place + k < frame → answers_at place frame k ≡ replicate k taking.Taken
unfolding answers_at
answers_few place frame zero h = refl
answers_few place frame (suc k) h =
    let first : pick (eqb (place + 1) frame) taking.Full taking.Taken ≡ taking.Taken = pick_false _ _ _ (ne_eqb (place + 1) frame (λ e. omega (arith, e, h))) in
    let rest = answers_few (place + 1) frame k (omega (arith, h)) in
    ap (λ (a : Taking). a ∷ answers_at (place + 1) frame k) first ∙ ap (λ (l : List Taking). taking.Taken ∷ l) rest

answers_full : (place frame k : ℕ) → place + suc k ≡ frame → answers_at place frame (suc k) ≡ replicate k taking.Taken ++ (taking.Full ∷ [])
unfolding answers_at
answers_full place frame zero h =
    let first : pick (eqb (place + 1) frame) taking.Full taking.Taken ≡ taking.Full = pick_true _ _ _ (eq-eqb (place + 1) frame (omega (arith, h))) in
    ap (λ (a : Taking). a ∷ []) first
answers_full place frame (suc k) h =
    let first : pick (eqb (place + 1) frame) taking.Full taking.Taken ≡ taking.Taken = pick_false _ _ _ (ne_eqb (place + 1) frame (λ e. omega (arith, e, h))) in
    let rest = answers_full (place + 1) frame k (omega (arith, h)) in
    ap (λ (a : Taking). a ∷ answers_at (place + 1) frame (suc k)) first ∙ ap (λ (l : List Taking). taking.Taken ∷ l) rest

-- ---- finite samples, one after the other

abbrev all_singly : Fine → List Float → List Float → Pushes
all_singly s near xs = record { fine = (filled_by s near xs).fine; near = (filled_by s near xs).near; answers = answers_at s.frames.len s.lengths.frame (length xs) }

singles_are : (s : Fine) (near xs : List Float) → Along s near xs → all_finite xs ≡ true → singles s near xs ≡ all_singly s near xs
unfolding singles filled_by answers_at all_finite took_one
singles_are s near [] a f = refl
singles_are s near (x ∷ xs) a f =
    let h = both_hold (finite x) (all_finite xs) f in
    ap (λ (p : NearPush). preceded p.took.answer (singles p.took.fine p.near xs)) (pushes s near x (a.takes (omega arith)) h.0)
    ∙ ap (λ (p : Pushes). preceded (took_one s).answer p) (singles_are (took_one s).fine (set near s.frames.len x) xs (along_next s near x xs a) h.1)

-- ---- a run of at least one sample is single pushes

module _ (s : Fine) (near xs : List Float) (z : run_refusal s (length near) xs ≡ none) (some : length xs ≡ 0 → ⊥) where
  abbrev n : ℕ
  n = takes s (length xs)

  samples : Takes s near
  samples = takes_samples s near xs z some

  part_length : length (part s xs) ≡ n
  part_length = let h : n ≤ length xs = omega arith in length-take-le n xs h

  along : Along s near (part s xs)
  along = record { takes = λ h. samples; within = omega (arith, part_length, room s near samples) }

  by_one : singles s near (part s xs) ≡ all_singly s near (part s xs)
  by_one = singles_are s near (part s xs) along (part_finite s near xs z some)

  answers_by_one : (singles s near (part s xs)).answers ≡ answers_at s.frames.len s.lengths.frame n
  answers_by_one = ap (λ (p : Pushes). p.answers) by_one ∙ ap (answers_at s.frames.len s.lengths.frame) part_length

  filled_full : full (filled_by s near (part s xs)).fine ≡ eqb (s.frames.len + n) s.lengths.frame
  filled_full = ap full (filled_state s near (part s xs)) ∙ ap (λ (k : ℕ). full (longer_by s k)) part_length

  positive : suc (n - 1) ≡ n
  positive = omega (arith, room s near samples, some)

  pub same_answers : (a : RunTaking) → a ≡ pick (full (filled_by s near (part s xs)).fine) (run.Full n) (run.Taken n)
      → (taken_in a ≡ n) × ((singles s near (part s xs)).answers ≡ singly a)
  same_answers a e =
      subst (λ (b : RunTaking). (taken_in b ≡ n) × ((singles s near (part s xs)).answers ≡ singly b)) (sym e)
      (pick_case (λ (b : RunTaking). (taken_in b ≡ n) × ((singles s near (part s xs)).answers ≡ singly b)) (full (filled_by s near (part s xs)).fine) _ _
      (λ f.
      let at : s.frames.len + n ≡ s.lengths.frame = eqb-true _ _ (sym filled_full ∙ f) in
      let is = answers_full s.frames.len s.lengths.frame (n - 1) (omega (arith, at, positive)) in
      (refl, answers_by_one ∙ ap (answers_at s.frames.len s.lengths.frame) (sym positive) ∙ is))
      (λ f.
      let off = eqb-false (s.frames.len + n) s.lengths.frame (sym filled_full ∙ f) in
      (refl, answers_by_one ∙ answers_few s.frames.len s.lengths.frame n (omega (arith, off, room s near samples)))))

  pub some_singles : SameAsSingles s near xs
  some_singles =
      let e = is_handed s near xs z some in
      let k = same_answers (handed s near xs).handed.answer (ap (λ (r : NearRun). r.handed.answer) (sym e)) in
      let one : singles s near (take (taken_in (handed s near xs).handed.answer) xs) ≡ singles s near (part s xs) = ap (λ (m : ℕ). singles s near (take m xs)) k.0 in
      record {
        state = ap (λ (r : NearRun). r.handed.fine) (sym e) ∙ ap (λ (p : Pushes). p.fine) (sym by_one ∙ sym one);
        frame = ap (λ (r : NearRun). r.near) (sym e) ∙ ap (λ (p : Pushes). p.near) (sym by_one ∙ sym one);
        answers = ap (λ (p : Pushes). p.answers) one ∙ k.1;
      }

none_singles : (s : Fine) (near xs : List Float) → run_refusal s (length near) xs ≡ none → length xs ≡ 0 → SameAsSingles s near xs
unfolding singles
none_singles s near xs z none =
    let e = is_empty s near xs refl z none in
    let one : singles s near (take (taken_in (handed s near xs).handed.answer) xs) ≡ singles s near [] = ap (λ (r : NearRun). singles s near (take (taken_in r.handed.answer) xs)) (sym e) in
    record {
      state = ap (λ (r : NearRun). r.handed.fine) (sym e) ∙ ap (λ (p : Pushes). p.fine) (sym one);
      frame = ap (λ (r : NearRun). r.near) (sym e) ∙ ap (λ (p : Pushes). p.near) (sym one);
      answers = ap (λ (p : Pushes). p.answers) one ∙ ap (λ (r : NearRun). singly r.handed.answer) e;
    }

-- a run that is not refused is single pushes
pub run_is_singles : RunIsSingles
run_is_singles s near xs z = go (eqb (length xs) 0) refl
  where
    go : (b : Bool) → eqb (length xs) 0 ≡ b → SameAsSingles s near xs
    go true e = none_singles s near xs z (eqb-true (length xs) 0 e)
    go false e = some_singles s near xs z (eqb-false (length xs) 0 e)

-- ---- where a run is refused

one_refused_lem : (s : Fine) (near xs : List Float) → Along s near xs → one_refused (singles s near xs).answers ≡ not (all_finite xs)
unfolding singles all_finite pick took_one
one_refused_lem s near [] a = refl
one_refused_lem s near (x ∷ xs) a = go (one_refused_lem (took_one s).fine (set near s.frames.len x) xs (along_next s near x xs a)) (finite x) refl
  where
    k : Takes s near
    k = a.takes (omega arith)

    go : one_refused (singles (took_one s).fine (set near s.frames.len x) xs).answers ≡ not (all_finite xs)
        → (b : Bool) → finite x ≡ b → one_refused (singles s near (x ∷ xs)).answers ≡ not (both (finite x) (all_finite xs))
    go rest true f =
        ap (λ (p : NearPush). one_refused (preceded p.took.answer (singles p.took.fine p.near xs)).answers) (pushes s near x k f)
        ∙ ap (λ (t : Bool). either t (one_refused (singles (took_one s).fine (set near s.frames.len x) xs).answers)) (pick_all (λ (t : Taking). is_refused t ≡ false) (full (took_one s).fine) _ _ refl refl)
        ∙ rest
        ∙ sym (ap (λ (t : Bool). not (both t (all_finite xs))) f)
    go rest false f =
        ap (λ (t : Bool). either t (one_refused (singles (pushed_near s near x).took.fine (pushed_near s near x).near xs).answers)) (refuses s near x k f)
        ∙ sym (ap (λ (t : Bool). not (both t (all_finite xs))) f)

-- in a state that takes samples
pub refused_if : RefusedIff
unfolding run_refusal pick all_finite
refused_if s near xs k = sym is ∙ sym (one_refused_lem s near (part s xs) along)
  where
    along : Along s near (part s xs)
    along =
        let h : takes s (length xs) ≤ length xs = omega arith in
        record { takes = λ some. k; within = omega (arith, length-take-le (takes s (length xs)) xs h, room s near k) }

    tested : (b : Bool) → not b ≡ not (eqb (pick b 0 4) 0)
    tested true = refl
    tested false = refl

    go : (b : Bool) → eqb (length xs) 0 ≡ b → not (all_finite (part s xs)) ≡ not (eqb (pick b none (require (not (full s)) frame_waits (require (all_finite (part s xs)) not_finite none))) none)
    go true e =
        let h : takes s (length xs) ≡ 0 = omega (arith, eqb-true (length xs) 0 e) in
        ap (λ (m : ℕ). not (all_finite (take m xs))) h
    go false e = tested (all_finite (part s xs)) ∙ ap (λ (t : Bool). not (eqb (pick (not t) (pick (all_finite (part s xs)) 0 4) 6) 0)) (sym k.unfilled)

    is : not (all_finite (part s xs)) ≡ not (eqb (run_refusal s (length near) xs) none)
    is = go (eqb (length xs) 0) refl ∙ ap (λ (m : ℕ). not (eqb m none)) (sym (pick_true (eqb (first_refusals s (is_frame (span_of s) (length near))) 0) _ _ (eq-eqb _ 0 k.judged)))

-- where 1 to 3 refuse
pub first_alike : RefusedFirst
unfolding run_refusal near_refusal
first_alike s near xs x h =
    let f = ne_eqb (first_refusals s (is_frame (span_of s) (length near))) 0 h in
    pick_false _ _ _ f ∙ sym (pick_false _ _ _ f)

-- where a full frame waits
pub waiting_alike : RefusedWaiting
unfolding run_refusal near_refusal
waiting_alike s near xs x j w some =
    let f = eq-eqb (first_refusals s (is_frame (span_of s) (length near))) 0 j in (
      pick_true _ _ _ f ∙ pick_false _ _ _ (ne_eqb (length xs) 0 (λ e. omega (arith, e, some))) ∙ pick_false _ _ _ (ap not w),
      pick_true _ _ _ f ∙ pick_false _ _ _ (ap not w),
    )
