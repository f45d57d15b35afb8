-- A run, refused and not, with what the code found.
use Prim.Native.Nat.{ℕ, ◌+◌, ◌-◌, ◌*◌, ◌%◌, ◌≤◌, ◌<◌, min}
use mathlib.Core.Path.{◌≡◌, refl, sym, ap, ◌∙◌, subst}
use mathlib.Core.List.{List}
use mathlib.Core.Bool.{true, false, not}
use native.Mathlib.Nat.{mod-lt, mul-le-mul}
use native.Mathlib.Omega.{arith}
use lib.Dec.{ltb, eqb}
use lib.ListN.{length, take, drop}
use lib.Ieee.{Float}
use borrow.Author.Tests.{ltb-true, eq-eqb, ne_eqb}
use Rattle.answers.specs.Pick.{pick, either, pick_true, pick_false, pick_case}
use Rattle.answers.specs.Refusals.{require, none, too_large, not_finite}
use Rattle.answers.specs.Numbers.{limit}
use Rattle.answers.proofs.Refusals.{passed}
use Rattle.folds.specs.Sums.{all_finite}
use Rattle.scan.specs.Bins.{near_len}
use Rattle.scan.specs.State.{finished, full, idle, due, first_refusals}
use Rattle.scan.specs.Blocks.{held_at}
use Rattle.scan.specs.Calls.{with_near}
use Rattle.scan.specs.declared.Geometry.{Geometry}
use Rattle.scan.specs.declared.Near.{Near}
use Rattle.scan.specs.declared.Scan.{Scan}
use Rattle.scan_calls.specs.Bounds.{Bounds}
use Rattle.scan_calls.proofs.Chains.{yes, no, turned_down, accepted, earlier, later}
use Rattle.scan_handover.specs.declared.RunTaking.TheVariants as run
use Rattle.scan_handover.specs.declared.Handed.{Handed}
use Rattle.scan_handover.specs.Handover.{lead, wants, takes, goes_in, part_refusal, run_refusal, NearRun, gather_all, unchanged, taken_all, handed}
use Rattle.scan_handover.specs.Singles.{Takes}
use Rattle.scan_handover.specs.Ready.{HandsOver, Wants, FillsBetween}
use Rattle.scan_handover.proofs.Places.{room_left, standing, bounded, fitting, held_standing}
use Rattle.scan_handover.proofs.Gathers.{part_length}

-- ---- the refusal number

module _ (s : Scan) (levels xs : List Float) (first : ℕ) where
  abbrev judged : ℕ
  judged = first_refusals s (eqb (length levels) (near_len (due s)))

  pub refused_first : {n : ℕ} → n ≡ judged → (n ≡ 0 → ⊥) → n ≡ run_refusal s levels xs first
  unfolding run_refusal
  refused_first is h = earlier is _ h

  module _ (z : judged ≡ 0) where
    pub run_empty : length xs ≡ 0 → 0 ≡ run_refusal s levels xs first
    unfolding run_refusal
    run_empty e = later (sym z) refl (yes refl _ (pick_true (eqb (length xs) 0) _ _ (eq-eqb (length xs) 0 e)) refl)

    module _ (some : length xs ≡ 0 → ⊥) where
      ends : either (eqb (length xs) 0) (finished s.verdict) ≡ finished s.verdict
      ends = pick_false (eqb (length xs) 0) true _ (ne_eqb (length xs) 0 some)

      pub run_finished : finished s.verdict ≡ true → 0 ≡ run_refusal s levels xs first
      unfolding run_refusal
      run_finished f = later (sym z) refl (yes refl _ (ends ∙ f) refl)

      module _ (f : finished s.verdict ≡ false) where
        pub run_waits : full s.geometry s.near ≡ true → 6 ≡ run_refusal s levels xs first
        unfolding run_refusal
        run_waits w = later (sym z) refl (no refl _ (ends ∙ f) (no refl _ (ap not w) refl))

        pub run_part : full s.geometry s.near ≡ false → part_refusal s.geometry (held_at s.near first) xs first ≡ run_refusal s levels xs first
        unfolding run_refusal
        run_part w = later (sym z) refl (no refl _ (ends ∙ f) (yes refl _ (ap not w) refl))

-- ---- the run, with the refusal number n that the code found

module _ (s : Scan) (levels xs : List Float) (first : ℕ) {n : ℕ} (is : n ≡ run_refusal s levels xs first) where
  pub not_handed : (n ≡ 0 → ⊥) → unchanged s levels (run.Refused n) ≡ handed s levels xs first
  unfolding handed
  not_handed h = turned_down is _ h (rw is)

  module _ (z : n ≡ 0) where
    pub is_empty : length xs ≡ 0 → unchanged s levels (run.Taken 0) ≡ handed s levels xs first
    unfolding handed
    is_empty e = accepted is _ z (yes refl _ (eq-eqb (length xs) 0 e) refl)

    module _ (some : length xs ≡ 0 → ⊥) where
      pub is_ignored : finished s.verdict ≡ true → unchanged s levels (run.Ignored (length xs)) ≡ handed s levels xs first
      unfolding handed
      is_ignored f = accepted is _ z (no refl _ (ne_eqb (length xs) 0 some) (yes refl _ f refl))

      pub is_handed : finished s.verdict ≡ false
          → let g = s.geometry in let m = held_at s.near first in
          taken_all s (gather_all g (record { near = m; levels = levels }) (goes_in g m first xs) (first + lead g m first)) (takes g m first (length xs)) ≡ handed s levels xs first
      unfolding handed
      is_handed f = accepted is _ z (no refl _ (ne_eqb (length xs) 0 some) (no refl _ f refl))

-- ---- the part that would be taken

pub lead_small : (g : Geometry) (n : Near) (first : ℕ) → 0 < g.decimation → lead g n first < g.decimation
lead_small g n first some = pick_case (λ (z : ℕ). z < g.decimation) (idle n) _ 0 (λ i. mod-lt (g.decimation - first % g.decimation) some) (λ i. some)

pub wants_some : (g : Geometry) (n : Near) → Wants g n → 1 ≤ wants g n
wants_some g n k = omega (arith, room_left n.len n.count g.decimation g.frame k.partial k.room)

pub wants_most : (g : Geometry) (n : Near) → Bounds g → wants g n ≤ 9437184
wants_most g n b = let h : g.frame * g.decimation ≤ 49152 * 192 = mul-le-mul b.frame b.decimation in omega (arith, h)

pub held_wants : (s : Scan) (levels : List Float) (index : ℕ) → Takes s levels → Wants s.geometry (held_at s.near index)
held_wants s levels index k =
    let t = held_standing s.geometry s.near index (bounded s levels k) (standing s levels k) in
    record { bounds = bounded s levels k; partial = t.partial; room = t.room }

pub not_empty : (xs : List Float) → 0 < length xs → length xs ≡ 0 → ⊥
not_empty xs h e = omega (arith, h, e)

-- what the code found of it: the near side as the first sample finds it, the samples dropped, and those taken
pub record Found (s : Scan) (levels xs : List Float) (first : ℕ) (m : Near) (l e : ℕ) : Type 0 where
  pub hands : HandsOver s levels xs
  pub near : m ≡ held_at s.near first
  pub lead : l ≡ lead s.geometry m first
  pub end : e ≡ min (length xs) (l + wants s.geometry m)

module _ (s : Scan) (levels xs : List Float) (first : ℕ) (m : Near) (l e : ℕ) (k : Found s levels xs first m l e) where
  abbrev g : Geometry
  g = s.geometry

  pub found_wants : Wants g m
  found_wants = subst (Wants g) (sym k.near) (held_wants s levels first k.hands.takes)

  pub some_taken : 1 ≤ e
  some_taken = omega (arith, k.end, wants_some g m found_wants, k.hands.some)

  pub few_taken : e ≤ 9437376
  few_taken = omega (arith, k.end, wants_most g m found_wants.bounds, k.lead, lead_small g m first found_wants.bounds.some_decimation, found_wants.bounds.decimation)

  pub within : e ≤ length xs
  within = omega (arith, k.end)

  abbrev tested : ℕ
  tested = require (ltb (first + e - 1) limit) too_large (require (all_finite (drop l (take e xs))) not_finite none)

  part : tested ≡ part_refusal g (held_at s.near first) xs first
  unfolding part_refusal
  part = rw (k.end, k.lead, k.near)

  module _ {n : ℕ} (is : n ≡ tested) where
    pub found_refusal : n ≡ run_refusal s levels xs first
    found_refusal =
        let t = k.hands.takes in
        is ∙ part ∙ run_part s levels xs first t.judged (not_empty xs k.hands.some) t.unfinished t.unfilled

    module _ (z : n ≡ 0) where
      pub found_fills : FillsBetween g m levels xs first l e
      found_fills =
          let a = passed (ltb (first + e - 1) limit) 4 _ (sym is ∙ z) in
          let b = passed (all_finite (drop l (take e xs))) 3 _ a.1 in
          let w = found_wants in
          record {
            within = within;
            all = λ h. record {
              bounds = w.bounds;
              fit = fitting s levels k.hands.takes;
              partial = w.partial;
              room = omega (arith, part_length xs l e within, k.end, room_left m.len m.count g.decimation g.frame w.partial w.room);
              finite = b.0;
              small = omega (arith, part_length xs l e within, ltb-true (first + e - 1) limit a.0, some_taken, h);
            };
          }

      pub found_handed : (f : Near) (after : List Float) → f ≡ (gather_all g (record { near = m; levels = levels }) (drop l (take e xs)) (first + l)).near
          → after ≡ (gather_all g (record { near = m; levels = levels }) (drop l (take e xs)) (first + l)).levels
          → (◌≡◌ {A = Handed} (record { scan = with_near s f; answer = pick (full g f) (run.Full e) (run.Taken e) }) (handed s levels xs first).handed) × (after ≡ (handed s levels xs first).levels)
      found_handed f after p q =
          let h = is_handed s levels xs first found_refusal z (not_empty xs k.hands.some) k.hands.takes.unfinished in
          let same : taken_all s (gather_all g (record { near = m; levels = levels }) (drop l (take e xs)) (first + l)) e ≡ handed s levels xs first = all ∙ h in
          (rw p (ap (λ (r : NearRun). r.handed) same), q ∙ ap (λ (r : NearRun). r.levels) same)
        where
          all : taken_all s (gather_all g (record { near = m; levels = levels }) (drop l (take e xs)) (first + l)) e
              ≡ taken_all s (gather_all g (record { near = held_at s.near first; levels = levels }) (goes_in g (held_at s.near first) first xs) (first + lead g (held_at s.near first) first)) (takes g (held_at s.near first) first (length xs))
          all = rw (k.end, k.lead, k.near)
