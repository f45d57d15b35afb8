-- A state that was judged stays so: a push of far samples and a run of near samples break no rule but, perhaps, that of the running sum, and that one is tested.
use Prim.Native.Nat.{ℕ, ◌+◌, ◌/◌, ◌≤◌}
use mathlib.Core.Path.{◌≡◌, refl, sym, ap, ◌∙◌}
use mathlib.Core.List.{List, [], ◌∷◌}
use mathlib.Core.Bool.{true, false}
use native.Mathlib.Omega.{arith}
use lib.Dec.{eqb}
use lib.ListN.{length}
use lib.Ieee.{Float}
use lib.Ieee.Scale.{finite}
use borrow.Author.Tests.{le-leb, eq-eqb}
use Rattle.answers.specs.Pick.{pick_true}
use Rattle.answers.specs.Numbers.{limit}
use Rattle.answers.proofs.Refusals.{passed}
use Rattle.folds.specs.Sums.{all_finite}
use Rattle.scan.specs.Bins.{in_table, full_slack, envelope_len, near_len}
use Rattle.scan.specs.State.{far_rule, keeps_rules, geometry_rule, finished, full, due, first_refusals}
use Rattle.scan.specs.Blocks.{Heard, hear, hear_all}
use Rattle.scan.specs.Calls.{far_refusal}
use Rattle.scan.specs.declared.Geometry.{Geometry}
use Rattle.scan.specs.declared.Far.{Far}
use Rattle.scan.specs.declared.Near.{Near}
use Rattle.scan.specs.declared.Verdict.{Verdict}
use Rattle.scan.specs.declared.Scan.{Scan}
use Rattle.scan.proofs.Laws.{both_and}
use Rattle.scan_calls.proofs.Chains.{first, second}
use Rattle.scan_calls.proofs.Passing.{told_by_product}
use Rattle.scan_push.specs.Ready.{HearsAll}
use Rattle.scan_push.proofs.Pushing.{Ready, hear_ready, hears_all}
use Rattle.scan_runs.specs.Ready.{Open, scan_of}

-- ---- 1 to 3, taken apart and put together

parts : (s : Scan) → first_refusals s true ≡ 0 → (in_table s.geometry.rate s.geometry.ceiling ≡ true) × (keeps_rules s ≡ true)
unfolding first_refusals
parts s z =
    let one = passed (in_table s.geometry.rate s.geometry.ceiling) 0 _ z in
    let two = passed true 1 _ one.1 in
    (one.0, (passed (keeps_rules s) 2 _ two.1).0)

whole : (s : Scan) → in_table s.geometry.rate s.geometry.ceiling ≡ true → keeps_rules s ≡ true → first_refusals s true ≡ 0
unfolding first_refusals
whole s t r = pick_true _ _ _ t ∙ pick_true true _ _ refl ∙ pick_true _ _ _ r

-- with lengths that are right
with_length : (s : Scan) (n m : ℕ) → n ≡ m → first_refusals s true ≡ 0 → first_refusals s (eqb n m) ≡ 0
with_length s n m q z = ap (first_refusals s) (eq-eqb n m q) ∙ z

pub opens : (s : Scan) (levels : List Float) → first_refusals s true ≡ 0 → length levels ≡ near_len (due s) → finished s.verdict ≡ false → full s.geometry s.near ≡ false → Open s levels
opens s levels z n u f = record { judged = with_length s (length levels) (near_len (due s)) n z; unfinished = u; unfilled = f }

pub near_judged : (s : Scan) (levels : List Float) → first_refusals s true ≡ 0 → length levels ≡ near_len (due s) → first_refusals s (eqb (length levels) (near_len (due s))) ≡ 0
near_judged s levels z n = with_length s (length levels) (near_len (due s)) n z

-- ---- a push of far samples

module _ (s : Scan) (envelope xs : List Float) (z : first_refusals s true ≡ 0) (n : length envelope ≡ envelope_len full_slack (due s)) (room : s.far.accepted + length xs ≤ limit) (fine : all_finite xs ≡ true) where
  pub far_unrefused : far_refusal full_slack s envelope xs ≡ 0
  unfolding far_refusal
  far_unrefused =
      pick_true _ _ _ (eq-eqb _ 0 (with_length s (length envelope) (envelope_len full_slack (due s)) n z))
      ∙ pick_true _ _ _ (le-leb (s.far.accepted + length xs) limit room)
      ∙ pick_true _ _ _ fine

  pub ready : HearsAll full_slack s.geometry s.far envelope xs
  ready = hears_all full_slack s envelope xs far_unrefused

heard_ready : (slack : ℕ) (g : Geometry) (xs : List Float) (h : Heard) → Ready slack g h xs → Ready slack g (hear_all slack g h xs) []
unfolding hear_all
heard_ready slack g [] h r = r
heard_ready slack g (x ∷ xs) h r = heard_ready slack g xs (hear slack g h x) (hear_ready slack g h x xs r)

placed_rule : (g : Geometry) (f : Far) (e : List Float) → HearsAll full_slack g f e [] → finite f.sum ≡ true → far_rule g f ≡ true
unfolding far_rule
placed_rule g f e r fine =
    let p = r.placed in
    let two = sym (told_by_product f.accepted g.decimation f.next f.count r.bounds.some_decimation p.partial) ∙ eq-eqb _ _ (sym p.accepted) in
    both_and _ _ (first _ _ two)
    (both_and _ _ (second (eqb f.next (f.accepted / g.decimation)) _ two)
    (both_and _ _ fine (le-leb f.accepted limit (omega (arith, r.room)))))

module _ (g : Geometry) (f : Far) (n : Near) (v : Verdict) (envelope xs : List Float) (z : first_refusals (scan_of g f n v) true ≡ 0) (r : HearsAll full_slack g f envelope xs) where
  abbrev heard : Heard
  heard = hear_all full_slack g (record { far = f; envelope = envelope }) xs

  pub far_judged : finite heard.far.sum ≡ true → first_refusals (scan_of g heard.far n v) true ≡ 0
  unfolding keeps_rules
  far_judged fine =
      let p = parts (scan_of g f n v) z in
      let r₁ = second (geometry_rule (scan_of g f n v)) _ p.1 in
      let r₂ = second (far_rule g f) _ r₁ in
      whole (scan_of g heard.far n v) p.0
      (both_and _ _ (first _ _ p.1) (both_and _ _ (placed_rule g heard.far heard.envelope (heard_ready full_slack g xs (record { far = f; envelope = envelope }) r) fine) r₂))
