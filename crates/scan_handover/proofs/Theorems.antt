-- A run is what single pushes of its samples are: `RunIsSingles`; and it is refused where one of them is: `RefusedIff`, `RefusedFirst`, `RefusedWaiting`.
use Prim.Native.Nat.{ℕ, zero, suc, ◌+◌, ◌-◌, ◌≤◌, ◌<◌, min}
use mathlib.Core.Path.{◌≡◌, refl, sym, ap, ◌∙◌, subst}
use mathlib.Core.List.{List, [], ◌∷◌, ◌++◌}
use mathlib.Core.Bool.{Bool, true, false, not, true≢false}
use native.Mathlib.Nat.{zero-min, min-zero, suc-min-suc}
use native.Mathlib.Omega.{arith}
use lib.Dec.{T, ltb, eqb}
use lib.ListN.{length, take, drop, replicate, length-take}
use lib.Seq.{take_all}
use lib.Ieee.{Float, nan, binary64, fits}
use borrow.Author.Tests.{ltb-true, lt-ltb, eqb-true, eqb-false, eq-eqb, ne_eqb, not-true}
use Rattle.answers.specs.Pick.{pick, either, pick_true, pick_false, pick_case}
use Rattle.answers.specs.Refusals.{none, too_large, not_finite}
use Rattle.answers.specs.Numbers.{limit}
use Rattle.answers.proofs.Refusals.{passed, passed_both}
use Rattle.folds.specs.Sums.{all_finite}
use Rattle.scan.specs.Bins.{near_len}
use Rattle.scan.specs.State.{emptied, finished, full, due, first_refusals}
use Rattle.scan.specs.Blocks.{Seen, hole, held_at}
use Rattle.scan.specs.Calls.{NearPush, near_refusal, with_near, pushed_near}
use Rattle.scan.specs.Streams.{AllF32}
use Rattle.scan.specs.declared.Geometry.{Geometry}
use Rattle.scan.specs.declared.Near.{Near}
use Rattle.scan.specs.declared.Scan.{Scan}
use Rattle.scan.specs.declared.Taking.{Taking}
use Rattle.scan.specs.declared.Taking.TheVariants as taking
use Rattle.scan_calls.proofs.Chains.{yes, no, earlier, later}
use Rattle.scan_push.proofs.Calls as single
use Rattle.scan_handover.specs.declared.RunTaking.{RunTaking}
use Rattle.scan_handover.specs.declared.RunTaking.TheVariants as run
use Rattle.scan_handover.specs.Handover.{lead, wants, takes, goes_in, part_refusal, run_refusal, NearRun, gather_all, unchanged, taken_all, handed}
use Rattle.scan_handover.specs.Singles.{Pushes, preceded, singles, taken_in, singly, RunIsSingles, is_refused, one_refused, Takes, RefusedIff, RefusedFirst, RefusedWaiting}
use Rattle.scan_handover.proofs.Places.{bounded, held_twice}
use Rattle.scan_handover.proofs.Alike.{answers_at, Along, all_pass, all_full, none_refused, found_takes, found_refusal, found_push}
use Rattle.scan_handover.proofs.Calls as call
use Rattle.scan_handover.proofs.Calls.{held_wants, wants_some, not_empty}

-- ---- the answers of a part that is not the whole, and of one that is

short : (l w k : ℕ) → k < l + w → answers_at l w k ≡ replicate (min l k) taking.Dropped ++ replicate (k - l) taking.Taken
unfolding answers_at
short l w zero h = let e : 0 - l ≡ 0 = omega arith in rw (min-zero l, e)
short zero w (suc k) h =
    let one = ne_eqb w 1 (λ (e : w ≡ 1). omega (arith, e, h)) in
    let rest = short zero (w - 1) k (omega arith) in
    let p : k - 0 ≡ k = omega arith in
    let q : suc k - 0 ≡ suc k = omega arith in
    rw (zero-min (suc k), q, pick_false (eqb w 1) taking.Full taking.Taken one) (ap (λ (z : List Taking). taking.Taken ∷ z) (rw (zero-min k, p) at rest))
short (suc l) w (suc k) h =
    let rest = short l w k (omega arith) in
    let e : suc k - suc l ≡ k - l = omega arith in
    rw (suc-min-suc l k, e) (ap (λ (z : List Taking). taking.Dropped ∷ z) rest)

last_one : (w : ℕ) → answers_at zero (suc w) (suc w) ≡ replicate w taking.Taken ++ (taking.Full ∷ [])
unfolding answers_at
last_one zero = ap (λ (a : Taking). a ∷ []) (pick_true (eqb 1 1) taking.Full taking.Taken (eq-eqb 1 1 refl))
last_one (suc w) =
    let one = ne_eqb (suc (suc w)) 1 (λ (e : suc (suc w) ≡ 1). omega (arith, e)) in
    let e : suc (suc w) - 1 ≡ suc w = omega arith in
    rw (pick_false (eqb (suc (suc w)) 1) taking.Full taking.Taken one, e) (ap (λ (z : List Taking). taking.Taken ∷ z) (last_one w))

whole : (l w k : ℕ) → 0 < w → k ≡ l + w → answers_at l w k ≡ replicate l taking.Dropped ++ replicate (k - l - 1) taking.Taken ++ (taking.Full ∷ [])
unfolding answers_at
whole zero zero k h e = absurd (omega (arith, h))
whole zero (suc w) k h e =
    let p : k ≡ suc w = omega (arith, e) in
    let q : suc w - 0 - 1 ≡ w = omega arith in
    rw (p, q) (last_one w)
whole (suc l) w zero h e = absurd (omega (arith, e))
whole (suc l) w (suc k) h e =
    let rest = whole l w k h (omega (arith, e)) in
    let p : suc k - suc l - 1 ≡ k - l - 1 = omega arith in
    rw p (ap (λ (z : List Taking). taking.Dropped ∷ z) rest)

-- none of them is a refusal
unrefused : (l w k : ℕ) → one_refused (answers_at l w k) ≡ false
unfolding answers_at pick
unrefused l w zero = refl
unrefused zero w (suc k) = go (eqb w 1) (unrefused zero (w - 1) k)
  where
    go : (b : Bool) → one_refused (answers_at zero (w - 1) k) ≡ false → either (is_refused (pick b taking.Full taking.Taken)) (one_refused (answers_at zero (w - 1) k)) ≡ false
    go true rest = rest
    go false rest = rest
unrefused (suc l) w (suc k) = unrefused l w k

-- ---- the run's first sample finds the frame under way, or none after a hole: the single pushes are those on what it finds

module _ (s : Scan) (levels : List Float) (x : Float) (xs : List Float) (index : ℕ) (k : Takes s levels) where
  abbrev there : Scan
  there = with_near s (held_at s.near index)

  same_found : near_refusal s levels x index ≡ 0 → singles s levels (x ∷ xs) index ≡ singles there levels (x ∷ xs) index
  unfolding singles
  same_found z = ap (λ (p : NearPush). preceded p.took.answer (singles p.took.scan p.levels xs (index + 1))) (found_push s levels x index k z)

  first_refused : (v : Scan) → (near_refusal v levels x index ≡ 0 → ⊥) → one_refused (singles v levels (x ∷ xs) index).answers ≡ true
  unfolding singles
  first_refused v h = pick_true (is_refused (pushed_near v levels x index).took.answer) true _ (ap (λ (p : NearPush). is_refused p.took.answer) (sym (single.not_taken v levels x index refl h)))

  refused_same : one_refused (singles s levels (x ∷ xs) index).answers ≡ one_refused (singles there levels (x ∷ xs) index).answers
  refused_same = go (eqb (near_refusal s levels x index) 0) refl
    where
      go : (b : Bool) → eqb (near_refusal s levels x index) 0 ≡ b → one_refused (singles s levels (x ∷ xs) index).answers ≡ one_refused (singles there levels (x ∷ xs) index).answers
      go true e = ap (λ (p : Pushes). one_refused p.answers) (same_found (eqb-true _ 0 e))
      go false e =
          let r = eqb-false _ 0 e in
          first_refused s r ∙ sym (first_refused there (λ (z : near_refusal there levels x index ≡ 0). r (found_refusal s levels x index k ∙ z)))

  same_unrefused : one_refused (singles there levels (x ∷ xs) index).answers ≡ false → singles s levels (x ∷ xs) index ≡ singles there levels (x ∷ xs) index
  same_unrefused h = go (eqb (near_refusal s levels x index) 0) refl
    where
      go : (b : Bool) → eqb (near_refusal s levels x index) 0 ≡ b → singles s levels (x ∷ xs) index ≡ singles there levels (x ∷ xs) index
      go true e = same_found (eqb-true _ 0 e)
      go false e = absurd (true≢false (sym (first_refused s (eqb-false _ 0 e)) ∙ refused_same ∙ h))

abbrev There : Scan → ℕ → Scan
There s index = with_near s (held_at s.near index)

-- the same of a list that is not empty
refused_there : (s : Scan) (levels ys : List Float) (index : ℕ) → Takes s levels → 0 < length ys → one_refused (singles s levels ys index).answers ≡ one_refused (singles (There s index) levels ys index).answers
refused_there s levels [] index k some = absurd (omega (arith, some))
refused_there s levels (x ∷ ys) index k some = refused_same s levels x ys index k

same_there : (s : Scan) (levels ys : List Float) (index : ℕ) → Takes s levels → 0 < length ys → one_refused (singles (There s index) levels ys index).answers ≡ false
    → singles s levels ys index ≡ singles (There s index) levels ys index
same_there s levels [] index k some h = absurd (omega (arith, some))
same_there s levels (x ∷ ys) index k some h = same_unrefused s levels x ys index k h

-- ---- the part that would be taken

pub all_f32 : (k : ℕ) (xs : List Float) → AllF32 xs → AllF32 (take k xs)
all_f32 zero xs a = tt
all_f32 (suc k) [] a = tt
all_f32 (suc k) (x ∷ xs) a = (a.0, all_f32 k xs a.1)

held_fits : (n : Near) (index : ℕ) → T (fits binary64 n.sum) → T (fits binary64 (held_at n index).sum)
held_fits n index h = pick_case (λ (m : Near). T (fits binary64 m.sum)) (hole n index) (emptied n) n (λ t. unfold fits in tt) (λ t. h)

module _ (s : Scan) (levels xs : List Float) (first : ℕ) (sum : T (fits binary64 s.near.sum)) (samples : AllF32 xs) (k : Takes s levels) (some : 0 < length xs) where
  abbrev g : Geometry
  g = s.geometry

  abbrev m : Near
  m = held_at s.near first

  abbrev l : ℕ
  l = lead g m first

  abbrev n : ℕ
  n = takes g m first (length xs)

  abbrev ys : List Float
  ys = take n xs

  abbrev gathered : Seen
  gathered = gather_all g (record { near = m; levels = levels }) (goes_in g m first xs) (first + l)

  wanted : 0 < wants g m
  wanted = wants_some g m (held_wants s levels first k)

  size : length ys ≡ n
  size = omega (arith, length-take n xs)

  one_taken : 0 < n
  one_taken = omega (arith, wanted, some)

  along : Along (There s first) levels ys first l (wants g m)
  along =
      record {
        takes = λ z. found_takes s levels nan first k;
        some = (bounded s levels k).some_decimation;
        held = held_twice s.near first;
        sum = held_fits s.near first sum;
        samples = all_f32 n xs samples;
        leads = refl;
        wanted = refl;
        within = omega (arith, size);
        fills = (found_takes s levels nan first k).unfilled ∙ sym (ne_eqb (wants g m) 0 (λ (e : wants g m ≡ 0). omega (arith, e, wanted)));
        more = λ z. wanted;
      }

  refusal : run_refusal s levels xs first ≡ part_refusal g m xs first
  refusal = sym (call.run_part s levels xs first k.judged (not_empty xs some) k.unfinished k.unfilled)

  parts : part_refusal g m xs first ≡ 0 → (first + length ys ≤ limit) × (all_finite (drop l ys) ≡ true)
  unfolding part_refusal
  parts z =
      let a = passed (ltb (first + n - 1) limit) 4 _ z in
      let b = passed (all_finite (goes_in g m first xs)) 3 _ a.1 in
      (omega (arith, size, one_taken, ltb-true (first + n - 1) limit a.0), b.0)

  joined : first + length ys ≤ limit → all_finite (drop l ys) ≡ true → part_refusal g m xs first ≡ 0
  unfolding part_refusal
  joined a b =
      let small : first + n - 1 < limit = omega (arith, size, one_taken, a) in
      pick_true (ltb (first + n - 1) limit) _ too_large (lt-ltb _ _ small) ∙ pick_true (all_finite (goes_in g m first xs)) none not_finite b

  -- what single pushes leave, and what they answer
  pub taken_singly : part_refusal g m xs first ≡ 0 → singles s levels ys first ≡ record { scan = with_near s gathered.near; levels = gathered.levels; answers = answers_at l (wants g m) n }
  taken_singly z =
      let p = parts z in
      let e = all_pass ys (There s first) levels first l (wants g m) along p.0 p.1 in
      let fine = ap (λ (q : Pushes). one_refused q.answers) e ∙ unrefused l (wants g m) (length ys) in
      same_there s levels ys first k (omega (arith, size, one_taken)) fine ∙ e
      ∙ ap (λ (z : ℕ). record { scan = with_near s gathered.near; levels = gathered.levels; answers = answers_at l (wants g m) z }) size

  full_is : part_refusal g m xs first ≡ 0 → full g gathered.near ≡ eqb n (l + wants g m)
  full_is z =
      let p = parts z in
      all_full ys (There s first) levels first l (wants g m) along p.0 p.1 ∙ ap (λ (z : ℕ). eqb z (l + wants g m)) size

  answered : part_refusal g m xs first ≡ 0 → answers_at l (wants g m) n ≡ singly l (pick (full g gathered.near) (run.Full n) (run.Taken n))
  answered z =
      let f = full_is z in
      pick_case (λ (a : RunTaking). answers_at l (wants g m) n ≡ singly l a) (full g gathered.near) (run.Full n) (run.Taken n)
      (λ t. whole l (wants g m) n wanted (eqb-true n (l + wants g m) (sym f ∙ t)))
      (λ t. short l (wants g m) n (let e = eqb-false n (l + wants g m) (sym f ∙ t) in omega (arith, e)))

  pub refused_iff : not (eqb (run_refusal s levels xs first) none) ≡ one_refused (singles s levels ys first).answers
  refused_iff =
      let there = refused_there s levels ys first k (omega (arith, size, one_taken)) in
      ap (λ (z : ℕ). not (eqb z none)) refusal ∙ go (eqb (part_refusal g m xs first) none) refl (one_refused (singles (There s first) levels ys first).answers) refl ∙ sym there
    where
      go : (b : Bool) → eqb (part_refusal g m xs first) none ≡ b → (c : Bool) → one_refused (singles (There s first) levels ys first).answers ≡ c → not b ≡ c
      go true e false f = refl
      go false e true f = refl
      go true e true f =
          let p = parts (eqb-true _ 0 e) in
          absurd (true≢false (sym f ∙ ap (λ (q : Pushes). one_refused q.answers) (all_pass ys (There s first) levels first l (wants g m) along p.0 p.1) ∙ unrefused l (wants g m) (length ys)))
      go false e false f =
          let p = none_refused ys (There s first) levels first l (wants g m) along f in
          absurd (eqb-false _ 0 e (joined (p.0 (omega (arith, size, one_taken))) p.1))

-- ---- a finished scan ignores each sample

ignored : (s : Scan) (levels xs : List Float) (index : ℕ) → first_refusals s (eqb (length levels) (near_len (due s))) ≡ 0 → finished s.verdict ≡ true
    → singles s levels xs index ≡ record { scan = s; levels = levels; answers = replicate (length xs) taking.Ignored }
unfolding singles near_refusal
ignored s levels [] index z f = refl
ignored s levels (x ∷ xs) index z f =
    let e = single.is_ignored s levels x index {n = 0} (later (sym z) refl (yes refl _ f refl)) refl refl f in
    ap (λ (p : NearPush). preceded p.took.answer (singles p.took.scan p.levels xs (index + 1))) (sym e) ∙ ap (preceded taking.Ignored) (ignored s levels xs (index + 1) z f)

-- ---- the theorems

-- what is to be shown of a run's result
abbrev Same : Scan → List Float → List Float → ℕ → NearRun → Type 0
Same s levels xs first r =
    let p = singles s levels (take (taken_in r.handed.answer) xs) first in
    (r.handed.scan ≡ p.scan) × (r.levels ≡ p.levels) × (p.answers ≡ singly (lead s.geometry (held_at s.near first) first) r.handed.answer)

none_same : (s : Scan) (levels xs : List Float) (first : ℕ) → Same s levels xs first (unchanged s levels (run.Taken 0))
unfolding singles
none_same s levels xs first =
    let l = lead s.geometry (held_at s.near first) first in
    let e : 0 - l ≡ 0 = omega arith in
    (refl, refl, rw (min-zero l, e))

ignored_same : (s : Scan) (levels xs : List Float) (first : ℕ) → first_refusals s (eqb (length levels) (near_len (due s))) ≡ 0 → finished s.verdict ≡ true → Same s levels xs first (unchanged s levels (run.Ignored (length xs)))
ignored_same s levels xs first z f =
    let e : singles s levels (take (length xs) xs) first ≡ record { scan = s; levels = levels; answers = replicate (length xs) taking.Ignored } =
    ap (λ (ys : List Float). singles s levels ys first) (take_all (length xs) xs (omega arith)) ∙ ignored s levels xs first z f in
    (ap (λ (p : Pushes). p.scan) (sym e), ap (λ (p : Pushes). p.levels) (sym e), ap (λ (p : Pushes). p.answers) e)

taken_same : (s : Scan) (levels xs : List Float) (first : ℕ) (sum : T (fits binary64 s.near.sum)) (samples : AllF32 xs) (k : Takes s levels) (some : 0 < length xs)
    → let g = s.geometry in let m = held_at s.near first in part_refusal g m xs first ≡ 0
    → Same s levels xs first (taken_all s (gather_all g (record { near = m; levels = levels }) (goes_in g m first xs) (first + lead g m first)) (takes g m first (length xs)))
taken_same s levels xs first sum samples k some z =
    let t = gathered s levels xs first sum samples k some in
    let n = takes s.geometry (held_at s.near first) first (length xs) in
    let e = taken_singly s levels xs first sum samples k some z in
    let a = answered s levels xs first sum samples k some z in
    let same : (a : RunTaking) → taken_in a ≡ n → answers_at (lead s.geometry (held_at s.near first) first) (wants s.geometry (held_at s.near first)) n ≡ singly (lead s.geometry (held_at s.near first) first) a
    → Same s levels xs first (record { handed = record { scan = with_near s t.near; answer = a }; levels = t.levels }) =
    λ a p q. let f = ap (λ (z : ℕ). singles s levels (take z xs) first) p ∙ e in (ap (λ (u : Pushes). u.scan) (sym f), ap (λ (u : Pushes). u.levels) (sym f), ap (λ (u : Pushes). u.answers) f ∙ q) in
    same (pick (full s.geometry t.near) (run.Full n) (run.Taken n)) (pick_case (λ (a : RunTaking). taken_in a ≡ n) (full s.geometry t.near) (run.Full n) (run.Taken n) (λ h. refl) (λ h. refl)) a

-- the state takes samples, where a run of some is not refused and the scan is not finished
open_run : (s : Scan) (levels xs : List Float) (first : ℕ) → run_refusal s levels xs first ≡ none → (length xs ≡ 0 → ⊥) → finished s.verdict ≡ false → Takes s levels
unfolding run_refusal
open_run s levels xs first z some f =
    let a = passed_both (first_refusals s (eqb (length levels) (near_len (due s)))) _ z in
    let over : either (eqb (length xs) 0) (finished s.verdict) ≡ false = pick_false (eqb (length xs) 0) true _ (ne_eqb (length xs) 0 some) ∙ f in
    let b = passed (not (full s.geometry s.near)) 5 _ (sym (pick_false _ none _ over) ∙ a.1) in
    record { judged = a.0; unfinished = f; unfilled = not-true _ b.0 }

judged_run_lem : (s : Scan) (levels xs : List Float) (first : ℕ) → run_refusal s levels xs first ≡ none → first_refusals s (eqb (length levels) (near_len (due s))) ≡ 0
unfolding run_refusal
judged_run_lem s levels xs first z = (passed_both (first_refusals s (eqb (length levels) (near_len (due s)))) _ z).0

same : (s : Scan) (levels xs : List Float) (first : ℕ) → T (fits binary64 s.near.sum) → AllF32 xs → run_refusal s levels xs first ≡ none → Same s levels xs first (handed s levels xs first)
same s levels xs first sum samples z = go (eqb (length xs) 0) refl (finished s.verdict) refl
  where
    go : (b : Bool) → eqb (length xs) 0 ≡ b → (c : Bool) → finished s.verdict ≡ c → Same s levels xs first (handed s levels xs first)
    go true e c f = subst (Same s levels xs first) (call.is_empty s levels xs first (sym z) refl (eqb-true _ 0 e)) (none_same s levels xs first)
    go false e true f = subst (Same s levels xs first) (call.is_ignored s levels xs first (sym z) refl (eqb-false _ 0 e) f) (ignored_same s levels xs first (judged_run_lem s levels xs first z) f)
    go false e false f =
        let h = eqb-false _ 0 e in
        let k = open_run s levels xs first z h f in
        let some : 0 < length xs = omega (arith, h) in
        subst (Same s levels xs first) (call.is_handed s levels xs first (sym z) refl h f) (taken_same s levels xs first sum samples k some (sym (refusal s levels xs first sum samples k some) ∙ z))

pub run_is_singles : RunIsSingles
run_is_singles s levels xs first sum samples z = let p = same s levels xs first sum samples z in record { state = p.0; bins = p.1; answers = p.2 }

pub refused_if : RefusedIff
refused_if s levels xs first sum samples k some = refused_iff s levels xs first sum samples k some

pub first_alike : RefusedFirst
unfolding near_refusal
first_alike s levels xs first x index h = sym (call.refused_first s levels xs first refl h) ∙ earlier refl _ h

pub waiting_alike : RefusedWaiting
unfolding near_refusal
waiting_alike s levels xs first x index z f w some = (sym (call.run_waits s levels xs first z (not_empty xs some) f w), sym (later (sym z) refl (no refl _ f (no refl _ (ap not w) refl))))
