-- Samples that go on with a block, summed at once: where the sum is finite each of them passes.
use Rattle.std.proofs.Common.{◌≡◌, ℕ, ◌+◌, ◌<◌, ◌≤◌, true, false, not, ltb, List, [], ◌∷◌, ◌++◌, length, drop, sym, refl, ap, ◌∙◌, subst, add-zero, zero-add, add-one, arith, drop_of_length-le, drop-cons, lt-ltb, eq-eqb, ne_eqb}
use lib.Ieee.{Float, nan, inf, fin, binary64}
use lib.Ieee.Scale.{finite}
use Rattle.answers.specs.Pick.{pick, both, either, pick_false, pick_case}
use Rattle.answers.specs.Numbers.{limit}
use Rattle.floats.specs.Functions.{magnitude}
use Rattle.folds.specs.Sums.{at}
use Rattle.folds.proofs.Quarters.{sum_finite}
use Rattle.scan.specs.State.{idle}
use Rattle.scan.specs.Blocks.{Seen, gather, dropped, held_at, summed}
use Rattle.scan.specs.Calls.{with_near}
use Rattle.scan.specs.declared.Near.{Near}
use Rattle.scan.specs.declared.Scan.{Scan}
use Rattle.scan.proofs.Laws.{both_and}
use Rattle.scan_push.proofs.Pushing.{goes_on_bin, held_on}
use Rattle.scan_runs.specs.Runs.{further, ran}
use Rattle.scan_runs.specs.Ready.{fills, passable, after_sample, total_of, moved, stretched}
use Rattle.scan_runs.proofs.Passing.{Steady, goes_on, keeps}

-- ---- a finite sum had finite parts

bare_finite : (x : Float) → finite (magnitude x) ≡ true → finite x ≡ true
unfolding magnitude
bare_finite nan h = h
bare_finite (inf s) h = h
bare_finite (fin s m e) h = refl

summed_finite : (sum x : Float) → finite (summed sum x) ≡ true → (finite sum ≡ true) × (finite x ≡ true)
summed_finite sum x h =
    let parts = sum_finite binary64 sum (magnitude x) h in
    (parts.0, bare_finite x parts.1)

total_finite : (sum : Float) (xs : List Float) → finite (total_of sum xs) ≡ true → finite sum ≡ true
unfolding total_of
total_finite sum [] h = h
total_finite sum (x ∷ xs) h = (summed_finite sum x (total_finite (summed sum x) xs h)).0

-- ---- the loop that sums

pub total_more : (xs : List Float) (i : ℕ) (sum whole : Float) → i < length xs → total_of sum (drop i xs) ≡ whole → total_of (summed sum (at xs i)) (drop (i + 1) xs) ≡ whole
unfolding total_of
total_more xs i sum whole h e = rw add-one (rw (drop-cons xs i nan) at e)

pub total_done : (xs : List Float) (i : ℕ) (sum whole : Float) → length xs ≤ i → total_of sum (drop i xs) ≡ whole → sum ≡ whole
unfolding total_of
total_done xs i sum whole l e = rw (drop_of_length-le xs l) at e

-- ---- one sample that goes on with the block

module _ (s : Scan) (levels : List Float) (k : Steady s levels) (x : Float) (index : ℕ) (underway : idle s.near ≡ false) (follows : index ≡ s.near.last + 1) (more : s.near.count + 1 < s.geometry.decimation) where
  abbrev one : Near
  one = record { len = s.near.len; sum = summed s.near.sum x; count = s.near.count + 1; first = s.near.first; last = index }

  -- the frame goes on
  held : s.near ≡ held_at s.near index
  held = held_on s.near index refl underway refl (eq-eqb index (s.near.last + 1) follows)

  kept : dropped s.geometry s.near index ≡ false
  kept = pick_false (idle s.near) _ false underway

  unfull : fills s.geometry s.near ≡ false
  unfull = pick_false _ _ false (ne_eqb (s.near.count + 1) s.geometry.decimation (λ (e : s.near.count + 1 ≡ s.geometry.decimation). omega arith))

  passing : index < limit → finite (summed s.near.sum x) ≡ true → passable s.geometry s.near x index ≡ true
  unfolding passable
  passing small h =
      let f = summed_finite s.near.sum x h in
      subst (λ (m : Near). both (finite s.near.sum) (both (ltb index limit) (either (dropped s.geometry m index) (both (finite x) (not (fills s.geometry m))))) ≡ true) held
      (both_and _ _ f.0 (both_and _ _ (lt-ltb index limit small) (pick_false (dropped s.geometry s.near index) true _ kept ∙ both_and _ _ f.1 (ap not unfull))))

  leaves : after_sample s.geometry (record { near = s.near; levels = levels }) x index ≡ record { near = one; levels = levels }
  leaves =
      ap (λ (m : Near). let u : Seen = record { near = m; levels = levels } in pick (dropped s.geometry m index) u (gather s.geometry u x index)) (sym held)
      ∙ pick_false (dropped s.geometry s.near index) _ _ kept
      ∙ goes_on_bin s.geometry s.near levels x index (λ (e : s.near.count + 1 ≡ s.geometry.decimation). omega arith)
      ∙ ap (λ (z : ℕ). record { near = record { len = s.near.len; sum = summed s.near.sum x; count = s.near.count + 1; first = z; last = index }; levels = levels }) (pick_false (idle s.near) _ s.near.first underway)

-- ---- all of them

moved_none : (n : Near) → moved n [] ≡ n
unfolding total_of
moved_none n =
    ap (λ (z : ℕ). record { len = n.len; sum = n.sum; count = z; first = n.first; last = n.last + 0 }) (add-zero n.count)
    ∙ ap (λ (z : ℕ). record { len = n.len; sum = n.sum; count = n.count; first = n.first; last = z }) (add-zero n.last)

pub stretched_none : (n : Near) (xs : List Float) → length xs ≡ 0 → n ≡ stretched n xs
stretched_none n [] e = sym (pick_case (λ (z : Near). z ≡ n) (finite (total_of n.sum [])) _ _ (λ h. moved_none n) (λ h. refl))
stretched_none n (x ∷ xs) e = absurd (omega (arith, e))

pub record Leapt (s : Scan) (levels xs ys : List Float) (index : ℕ) : Type 0 where
  pub ready : Steady (with_near s (moved s.near xs)) levels
  pub same : further (length xs) (ran (with_near s (moved s.near xs)) levels ys (index + length xs)) ≡ ran s levels (xs ++ ys) index

pub leapt : (xs ys : List Float) (s : Scan) (levels : List Float) (index : ℕ) → Steady s levels → (0 < length xs → idle s.near ≡ false) → (0 < length xs → index ≡ s.near.last + 1) → s.near.count + length xs < s.geometry.decimation
    → (0 < length xs → index + length xs ≤ limit) → finite (total_of s.near.sum xs) ≡ true → Leapt s levels xs ys index
unfolding total_of
leapt [] ys s levels index k underway follows more small h =
    let same = moved_none s.near in
    let r = ran s levels ys index in
    record {
      ready = subst (λ (n : Near). Steady (with_near s n) levels) (sym same) k;
      same = ap (λ (n : Near). further 0 (ran (with_near s n) levels ys (index + 0))) same ∙ ap (λ (z : ℕ). further 0 (ran s levels ys z)) (add-zero index) ∙ ap (λ (z : ℕ). record { scan = r.scan; levels = r.levels; passed = z }) (zero-add r.passed);
    }
leapt (x ∷ xs) ys s levels index k underway follows more small h =
    let u = underway (omega arith) in
    let f = follows (omega arith) in
    let l = small (omega arith) in
    let c : s.near.count + 1 < s.geometry.decimation = omega arith in
    let p = passing s levels k x index u f c (omega arith) (total_finite (summed s.near.sum x) xs h) in
    let n = one s levels k x index u f c in
    let e = leaves s levels k x index u f c in
    let k' : Steady (with_near s n) levels = subst (λ (z : Seen). Steady (with_near s z.near) z.levels) e (keeps s levels k x index p) in
    let later = leapt xs ys (with_near s n) levels (index + 1) k' (λ (z : 0 < length xs). pick_false _ _ false (ne_eqb (s.near.count + 1) 0 (λ (o : s.near.count + 1 ≡ 0). omega arith))) (λ (z : 0 < length xs). refl) (omega arith) (λ (z : 0 < length xs). omega arith) h in
    let count : s.near.count + 1 + length xs ≡ s.near.count + length (x ∷ xs) = omega arith in
    let place : index + 1 + length xs ≡ index + length (x ∷ xs) = omega arith in
    let last : index + length xs ≡ s.near.last + length (x ∷ xs) = omega (arith, f) in
    let same : moved n xs ≡ moved s.near (x ∷ xs) =
    ap (λ (z : ℕ). record { len = s.near.len; sum = total_of (summed s.near.sum x) xs; count = z; first = s.near.first; last = index + length xs }) count
    ∙ ap (λ (z : ℕ). record { len = s.near.len; sum = total_of (summed s.near.sum x) xs; count = s.near.count + length (x ∷ xs); first = s.near.first; last = z }) last in
    let r = ran (with_near s (moved s.near (x ∷ xs))) levels ys (index + length (x ∷ xs)) in
    let longer : length (x ∷ xs) + r.passed ≡ 1 + (length xs + r.passed) = omega arith in
    record {
      ready = subst (λ (m : Near). Steady (with_near s m) levels) same later.ready;
      same =
          ap (λ (z : ℕ). record { scan = r.scan; levels = r.levels; passed = z }) longer
          ∙ ap (λ (m : Near). further 1 (further (length xs) (ran (with_near s m) levels ys (index + length (x ∷ xs))))) (sym same)
          ∙ ap (λ (z : ℕ). further 1 (further (length xs) (ran (with_near s (moved n xs)) levels ys z))) (sym place)
          ∙ ap (further 1) later.same
          ∙ ap (λ (z : Seen). further 1 (ran (with_near s z.near) z.levels (xs ++ ys) (index + 1))) (sym e)
          ∙ sym (goes_on s levels k x index p (xs ++ ys));
    }
