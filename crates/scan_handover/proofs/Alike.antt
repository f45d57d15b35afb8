-- Single pushes of a run's samples, one after the other: `RunIsSingles`, `RefusedIff` and their like.
use Prim.Native.Nat.{ℕ, zero, suc, ◌+◌, ◌-◌, ◌≤◌, ◌<◌}
use mathlib.Core.Path.{◌≡◌, refl, sym, ap, ◌∙◌}
use mathlib.Core.List.{List, [], ◌∷◌}
use mathlib.Core.Bool.{Bool, true, false, not, true≢false}
use mathlib.Core.Logic.{inl, inr}
use native.Mathlib.Nat.{add-zero}
use native.Mathlib.Omega.{arith}
use lib.Dec.{T, ltb, eqb}
use lib.ListN.{length, drop}
use lib.Ieee.{Float, binary32, binary64, fits}
use lib.Ieee.Scale.{finite}
use borrow.Author.Tests.{ltb-true, lt-ltb, eqb-true, eqb-false, eq-eqb, ne_eqb}
use Rattle.answers.specs.Pick.{pick, either, pick_true, pick_false}
use Rattle.answers.specs.Refusals.{require, none, too_large, not_finite}
use Rattle.answers.specs.Numbers.{limit}
use Rattle.answers.proofs.Refusals.{passed}
use Rattle.floats.proofs.Compare.{le_or_lt}
use Rattle.folds.specs.Sums.{all_finite}
use Rattle.scan.specs.State.{full, idle}
use Rattle.scan.specs.Blocks.{Seen, gather, dropped, held_at}
use Rattle.scan.specs.Calls.{NearPush, near_refusal, untaken, taken_by, with_near, pushed_near}
use Rattle.scan.specs.Streams.{AllF32}
use Rattle.scan.specs.declared.Geometry.{Geometry}
use Rattle.scan.specs.declared.Near.{Near}
use Rattle.scan.specs.declared.Scan.{Scan}
use Rattle.scan.specs.declared.Taking.{Taking}
use Rattle.scan.specs.declared.Taking.TheVariants as taking
use Rattle.scan.proofs.Laws.{both_left, both_right, either_left, either_right}
use Rattle.scan.proofs.Held.{held_next}
use Rattle.scan_calls.proofs.Chains.{yes, no, later}
use Rattle.scan_push.proofs.Calls.{not_taken, is_dropped, is_taken}
use Rattle.scan_handover.specs.Handover.{lead, wants, gather_all}
use Rattle.scan_handover.specs.Singles.{preceded, singles, is_refused, one_refused, Takes}
use Rattle.scan_handover.proofs.Places.{standing, bounded, standing_takes, held_standing, held_idle, held_on, held_twice, not_idle_leads, dropped_idle, one_dropped, leads_dropped, leads_none, gather_last, gather_busy, gather_length, gather_fits, gather_full, gather_wants, gather_standing}

-- ---- the refusals that are left for a sample, in a state that takes samples

abbrev left : Geometry → Near → Float → ℕ → ℕ
left g n x index = require (ltb index limit) too_large (require (either (dropped g n index) (finite x)) not_finite none)

refusal_is : (s : Scan) (levels : List Float) (x : Float) (index : ℕ) → Takes s levels → near_refusal s levels x index ≡ left s.geometry (held_at s.near index) x index
unfolding near_refusal
refusal_is s levels x index k = sym (later (sym k.judged) refl (no refl _ k.unfinished (yes refl _ (ap not k.unfilled) refl)))

-- a state and what its sample finds: the frame under way, or none after a hole
module _ (s : Scan) (levels : List Float) (x : Float) (index : ℕ) (k : Takes s levels) where
  abbrev pub found : Scan
  found = with_near s (held_at s.near index)

  pub found_takes : Takes found levels
  found_takes = standing_takes s levels k (held_at s.near index) levels refl (held_standing s.geometry s.near index (bounded s levels k) (standing s levels k))

  pub found_refusal : near_refusal s levels x index ≡ near_refusal found levels x index
  found_refusal =
      refusal_is s levels x index k
      ∙ ap (λ (m : Near). left s.geometry m x index) (sym (held_twice s.near index))
      ∙ sym (refusal_is found levels x index found_takes)

  pub found_push : near_refusal s levels x index ≡ 0 → pushed_near s levels x index ≡ pushed_near found levels x index
  found_push z = go (dropped s.geometry (held_at s.near index) index) refl
    where
      same : dropped s.geometry (held_at (held_at s.near index) index) index ≡ dropped s.geometry (held_at s.near index) index
      same = ap (λ (m : Near). dropped s.geometry m index) (held_twice s.near index)

      go : (b : Bool) → dropped s.geometry (held_at s.near index) index ≡ b → pushed_near s levels x index ≡ pushed_near found levels x index
      go true d =
          sym (is_dropped s levels x index refl z refl k.unfinished refl d)
          ∙ ap (λ (m : Near). untaken (with_near s m) levels taking.Dropped) (sym (held_twice s.near index))
          ∙ is_dropped found levels x index refl (sym found_refusal ∙ z) refl k.unfinished refl (same ∙ d)
      go false d =
          sym (is_taken s levels x index refl z refl k.unfinished refl d)
          ∙ ap (λ (m : Near). taken_by s (gather s.geometry (record { near = m; levels = levels }) x index)) (sym (held_twice s.near index))
          ∙ is_taken found levels x index refl (sym found_refusal ∙ z) refl k.unfinished refl (same ∙ d)

-- ---- one sample, in a state that goes on with its index

module _ (s : Scan) (levels : List Float) (x : Float) (index : ℕ) (k : Takes s levels) (held : held_at s.near index ≡ s.near) where
  abbrev gathered : Seen
  gathered = gather s.geometry (record { near = s.near; levels = levels }) x index

  here : near_refusal s levels x index ≡ left s.geometry s.near x index
  here = refusal_is s levels x index k ∙ ap (λ (m : Near). left s.geometry m x index) held

  -- what is not refused
  pub passes : index < limit → either (dropped s.geometry s.near index) (finite x) ≡ true → near_refusal s levels x index ≡ 0
  passes small r = here ∙ pick_true (ltb index limit) _ too_large (lt-ltb index limit small) ∙ pick_true _ none not_finite r

  pub passed_left : near_refusal s levels x index ≡ 0 → (index < limit) × (either (dropped s.geometry s.near index) (finite x) ≡ true)
  passed_left z =
      let a = passed (ltb index limit) 4 _ (sym here ∙ z) in
      (ltb-true index limit a.0, (passed _ 3 _ a.1).0)

  drops : dropped s.geometry (held_at s.near index) index ≡ dropped s.geometry s.near index
  drops = ap (λ (m : Near). dropped s.geometry m index) held

  pub push_dropped : near_refusal s levels x index ≡ 0 → dropped s.geometry s.near index ≡ true → pushed_near s levels x index ≡ untaken s levels taking.Dropped
  push_dropped z d = sym (is_dropped s levels x index refl z refl k.unfinished refl (drops ∙ d)) ∙ ap (λ (m : Near). untaken (with_near s m) levels taking.Dropped) held

  pub push_taken : near_refusal s levels x index ≡ 0 → dropped s.geometry s.near index ≡ false → pushed_near s levels x index ≡ taken_by s gathered
  push_taken z d = sym (is_taken s levels x index refl z refl k.unfinished refl (drops ∙ d)) ∙ ap (λ (m : Near). taken_by s (gather s.geometry (record { near = m; levels = levels }) x index)) held

  -- the state after a sample that was taken, where the frame wants more
  pub taken_takes : T (fits binary64 s.near.sum) → T (fits binary32 x) → finite x ≡ true → index < limit → dropped s.geometry s.near index ≡ false → 1 < wants s.geometry s.near → Takes (with_near s gathered.near) gathered.levels
  taken_takes a b h small d more =
      standing_takes s levels k gathered.near gathered.levels (gather_length s.geometry s.near levels x index)
      (gather_standing s.geometry s.near levels x index (standing s levels k) a b h (λ i. let e = held_next s.near index (ap idle held ∙ i) in e ∙ ap (λ (m : Near). m.last + 1) held) d small more)

-- ---- the answers, where l samples are dropped and the frame wants w

unfoldable pub answers_at : ℕ → ℕ → ℕ → List Taking
answers_at l w zero = []
answers_at zero w (suc k) = pick (eqb w 1) taking.Full taking.Taken ∷ answers_at zero (w - 1) k
answers_at (suc l) w (suc k) = taking.Dropped ∷ answers_at l w k

-- what is carried from sample to sample: the samples left fit into what is dropped and wanted
pub record Along (s : Scan) (levels xs : List Float) (index l w : ℕ) : Type 0 where
  pub takes : 0 < length xs → Takes s levels
  pub some : 0 < s.geometry.decimation
  pub held : held_at s.near index ≡ s.near
  pub sum : T (fits binary64 s.near.sum)
  pub samples : AllF32 xs
  pub leads : lead s.geometry s.near index ≡ l
  pub wanted : wants s.geometry s.near ≡ w
  pub within : length xs ≤ l + w
  pub fills : full s.geometry s.near ≡ eqb w 0
  pub more : 0 < l → 0 < w

-- after a sample that was dropped
along_dropped : (s : Scan) (levels : List Float) (x : Float) (xs : List Float) (index l w : ℕ) → Along s levels (x ∷ xs) index (suc l) w → Along s levels xs (index + 1) l w
along_dropped s levels x xs index l w a =
    let d = leads_dropped s.geometry s.near index a.some (λ (e : lead s.geometry s.near index ≡ 0). omega (arith, e, a.leads)) in
    record {
      takes = λ m. a.takes (omega arith);
      some = a.some;
      held = held_idle s.near (index + 1) (dropped_idle s.geometry s.near index a.some d);
      sum = a.sum;
      samples = a.samples.1;
      leads = omega (arith, a.leads, one_dropped s.geometry s.near index a.some d);
      wanted = a.wanted;
      within = omega (arith, a.within);
      fills = a.fills;
      more = λ m. a.more (omega arith);
    }

one_less : (w : ℕ) → 0 < w → eqb w 1 ≡ eqb (w - 1) 0
one_less w some = go (eqb w 1) refl
  where
    go : (b : Bool) → eqb w 1 ≡ b → b ≡ eqb (w - 1) 0
    go true e = sym (eq-eqb (w - 1) 0 (omega (arith, eqb-true w 1 e)))
    go false e = sym (ne_eqb (w - 1) 0 (λ (z : w - 1 ≡ 0). eqb-false w 1 e (omega (arith, z, some))))

-- after one that was taken
along_taken : (s : Scan) (levels : List Float) (x : Float) (xs : List Float) (index w : ℕ) → Along s levels (x ∷ xs) index zero w → index < limit → finite x ≡ true
    → let t = gather s.geometry (record { near = s.near; levels = levels }) x index in Along (with_near s t.near) t.levels xs (index + 1) zero (w - 1)
along_taken s levels x xs index w a small h =
    let g = s.geometry in
    let n = s.near in
    let k = a.takes (omega arith) in
    let d = leads_none g n index a.some a.leads in
    let t = gather g (record { near = n; levels = levels }) x index in
    let e = gather_wants g n levels x index (standing s levels k) in
    record {
      takes = λ m. taken_takes s levels x index k a.held a.sum a.samples.0 h small d (omega (arith, a.within, a.wanted, m));
      some = a.some;
      held = held_on t.near (index + 1) (ap (λ (z : ℕ). z + 1) (sym (gather_last g n levels x index)));
      sum = gather_fits g n levels x index;
      samples = a.samples.1;
      leads = not_idle_leads g t.near (index + 1) a.some (gather_busy g n levels x index);
      wanted = omega (arith, e, a.wanted);
      within = omega (arith, a.within);
      fills = gather_full g n levels x index (standing s levels k) ∙ ap (λ (z : ℕ). eqb z 1) a.wanted ∙ one_less w (omega (arith, e, a.wanted));
      more = λ m. absurd (omega (arith, m));
    }

same_more : (a b c d : ℕ) → a + 1 ≡ c → b + 1 ≡ d → eqb a b ≡ eqb c d
same_more a b c d p q = go (eqb a b) refl
  where
    go : (t : Bool) → eqb a b ≡ t → t ≡ eqb c d
    go true e = sym (eq-eqb c d (omega (arith, p, q, eqb-true a b e)))
    go false e = sym (ne_eqb c d (λ (z : c ≡ d). eqb-false a b e (omega (arith, p, q, z))))

-- ---- where the part passes, each single push does

drop_none : (l : ℕ) → ◌≡◌ {A = List Float} (drop l []) []
drop_none zero = refl
drop_none (suc l) = refl

abbrev pub Ends : Scan → List Float → List Float → ℕ → ℕ → ℕ → Type 0
Ends s levels xs index l w =
    let t = gather_all s.geometry (record { near = s.near; levels = levels }) (drop l xs) (index + l) in
    singles s levels xs index ≡ record { scan = with_near s t.near; levels = t.levels; answers = answers_at l w (length xs) }

pub all_pass : (xs : List Float) (s : Scan) (levels : List Float) (index l w : ℕ) → Along s levels xs index l w → index + length xs ≤ limit → all_finite (drop l xs) ≡ true → Ends s levels xs index l w
unfolding singles gather_all all_finite answers_at
all_pass [] s levels index l w a small h = ap (λ (ys : List Float). let t = gather_all s.geometry (record { near = s.near; levels = levels }) ys (index + l) in record { scan = with_near s t.near; levels = t.levels; answers = [] }) (sym (drop_none l))
all_pass (x ∷ xs) s levels index (suc l) w a small h =
    let k = a.takes (omega arith) in
    let d = leads_dropped s.geometry s.near index a.some (λ (e : lead s.geometry s.near index ≡ 0). omega (arith, e, a.leads)) in
    let p = push_dropped s levels x index k a.held (passes s levels x index k a.held (omega arith) (pick_true _ _ _ d)) d in
    let rest = all_pass xs s levels (index + 1) l w (along_dropped s levels x xs index l w a) (omega arith) h in
    let place : index + 1 + l ≡ index + suc l = omega arith in
    ap (λ (q : NearPush). preceded q.took.answer (singles q.took.scan q.levels xs (index + 1))) p
    ∙ ap (preceded taking.Dropped) rest
    ∙ ap (λ (z : ℕ). let t = gather_all s.geometry (record { near = s.near; levels = levels }) (drop l xs) z in record { scan = with_near s t.near; levels = t.levels; answers = taking.Dropped ∷ answers_at l w (length xs) }) place
all_pass (x ∷ xs) s levels index zero w a small h =
    let g = s.geometry in
    let n = s.near in
    let k = a.takes (omega arith) in
    let f = both_left (finite x) _ h in
    let d = leads_none g n index a.some a.leads in
    let t = gather g (record { near = n; levels = levels }) x index in
    let p = push_taken s levels x index k a.held (passes s levels x index k a.held (omega arith) (pick_false (dropped g n index) _ _ d ∙ f)) d in
    let rest = all_pass xs (with_near s t.near) t.levels (index + 1) zero (w - 1) (along_taken s levels x xs index w a (omega arith) f) (omega arith) (both_right (finite x) _ h) in
    let fills : full g t.near ≡ eqb w 1 = gather_full g n levels x index (standing s levels k) ∙ ap (λ (z : ℕ). eqb z 1) a.wanted in
    let place : index + 1 + 0 ≡ index + 0 + 1 = omega arith in
    ap (λ (q : NearPush). preceded q.took.answer (singles q.took.scan q.levels xs (index + 1))) p
    ∙ ap (preceded (pick (full g t.near) taking.Full taking.Taken)) rest
    ∙ rw (fills, place, add-zero index)

-- the frame is full where no more samples were wanted
pub all_full : (xs : List Float) (s : Scan) (levels : List Float) (index l w : ℕ) → Along s levels xs index l w → index + length xs ≤ limit → all_finite (drop l xs) ≡ true
    → full s.geometry (gather_all s.geometry (record { near = s.near; levels = levels }) (drop l xs) (index + l)).near ≡ eqb (length xs) (l + w)
unfolding gather_all all_finite
all_full [] s levels index l w a small h =
    ap (λ (ys : List Float). full s.geometry (gather_all s.geometry (record { near = s.near; levels = levels }) ys (index + l)).near) (drop_none l) ∙ a.fills ∙ none_left l w a.more
  where
    none_left : (l w : ℕ) → (0 < l → 0 < w) → eqb w 0 ≡ eqb 0 (l + w)
    none_left zero zero m = refl
    none_left zero (suc w) m = ne_eqb (suc w) 0 (λ (e : suc w ≡ 0). omega (arith, e)) ∙ sym (ne_eqb 0 (0 + suc w) (λ (e : 0 ≡ 0 + suc w). omega (arith, e)))
    none_left (suc l) w m =
        let some = m (omega arith) in
        ne_eqb w 0 (λ (e : w ≡ 0). omega (arith, e, some)) ∙ sym (ne_eqb 0 (suc l + w) (λ (e : 0 ≡ suc l + w). omega (arith, e)))
all_full (x ∷ xs) s levels index (suc l) w a small h =
    let rest = all_full xs s levels (index + 1) l w (along_dropped s levels x xs index l w a) (omega arith) h in
    let place : index + suc l ≡ index + 1 + l = omega arith in
    ap (λ (z : ℕ). full s.geometry (gather_all s.geometry (record { near = s.near; levels = levels }) (drop l xs) z).near) place ∙ rest ∙ same_more (length xs) (l + w) (length (x ∷ xs)) (suc l + w) (omega arith) (omega arith)
all_full (x ∷ xs) s levels index zero w a small h =
    let t = gather s.geometry (record { near = s.near; levels = levels }) x index in
    let f = both_left (finite x) _ h in
    let b = along_taken s levels x xs index w a (omega arith) f in
    let rest = all_full xs (with_near s t.near) t.levels (index + 1) zero (w - 1) b (omega arith) (both_right (finite x) _ h) in
    let place : index + 0 + 1 ≡ index + 1 + 0 = omega arith in
    let some : 0 < w = omega (arith, a.within) in
    rw (add-zero index)
    (rw (add-zero (index + 1)) at rest ∙ same_more (length xs) (0 + (w - 1)) (length (x ∷ xs)) (0 + w) (omega arith) (omega (arith, some)))

-- ---- where no single push is refused, the part passes

pub none_refused : (xs : List Float) (s : Scan) (levels : List Float) (index l w : ℕ) → Along s levels xs index l w → one_refused (singles s levels xs index).answers ≡ false
    → (0 < length xs → index + length xs ≤ limit) × (all_finite (drop l xs) ≡ true)
unfolding singles all_finite
none_refused [] s levels index l w a h = (λ m. absurd (omega (arith, m)), ap all_finite (drop_none l))
none_refused (x ∷ xs) s levels index l w a h = go (λ s levels index l w a h. none_refused xs s levels index l w a h) l a (eqb (near_refusal s levels x index) 0) refl
  where
    Rest : Type 0
    Rest = (s : Scan) (levels : List Float) (index l w : ℕ) → Along s levels xs index l w → one_refused (singles s levels xs index).answers ≡ false → (0 < length xs → index + length xs ≤ limit) × (all_finite (drop l xs) ≡ true)

    k : Takes s levels
    k = a.takes (omega arith)

    step : (p : NearPush) → pushed_near s levels x index ≡ p → one_refused (singles p.took.scan p.levels xs (index + 1)).answers ≡ false
    step p e = either_right (is_refused p.took.answer) _ (ap (λ (q : NearPush). one_refused (preceded q.took.answer (singles q.took.scan q.levels xs (index + 1))).answers) (sym e) ∙ h)

    onward : index < limit → (0 < length xs → index + 1 + length xs ≤ limit) → index + length (x ∷ xs) ≤ limit
    onward small f = elim (le_or_lt 1 (length xs)) [
      | inl b ↦ omega (arith, f b)
      | inr b ↦ omega (arith, b, small)
    ]

    go : Rest → (l : ℕ) → Along s levels (x ∷ xs) index l w → (b : Bool) → eqb (near_refusal s levels x index) 0 ≡ b → (0 < length (x ∷ xs) → index + length (x ∷ xs) ≤ limit) × (all_finite (drop l (x ∷ xs)) ≡ true)
    go others l a false e =
        let refused = not_taken s levels x index refl (eqb-false _ 0 e) in
        let said = either_left (is_refused (pushed_near s levels x index).took.answer) _ h in
        absurd (true≢false (ap (λ (q : NearPush). is_refused q.took.answer) refused ∙ said))
    go others (suc l) a true e =
        let z = eqb-true _ 0 e in
        let m = passed_left s levels x index k a.held z in
        let d = leads_dropped s.geometry s.near index a.some (λ (e : lead s.geometry s.near index ≡ 0). omega (arith, e, a.leads)) in
        let rest = others s levels (index + 1) l w (along_dropped s levels x xs index l w a) (step _ (push_dropped s levels x index k a.held z d)) in
        (λ o. onward m.0 rest.0, rest.1)
    go others zero a true e =
        let z = eqb-true _ 0 e in
        let g = s.geometry in
        let m = passed_left s levels x index k a.held z in
        let d = leads_none g s.near index a.some a.leads in
        let f : finite x ≡ true = sym (pick_false (dropped g s.near index) _ _ d) ∙ m.1 in
        let t = gather g (record { near = s.near; levels = levels }) x index in
        let rest = others (with_near s t.near) t.levels (index + 1) zero (w - 1) (along_taken s levels x xs index w a m.0 f) (step _ (push_taken s levels x index k a.held z d)) in
        (λ o. onward m.0 rest.0, pick_true (finite x) _ false f ∙ rest.1)
