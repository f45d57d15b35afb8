-- What a push that is not refused may count on, and its loop.
use Prim.Native.Nat.{ℕ, ◌+◌, ◌-◌, ◌*◌, ◌/◌, ◌%◌, ◌≤◌, ◌<◌}
use mathlib.Core.Path.{◌≡◌, refl, sym, ap, ◌∙◌}
use mathlib.Core.List.{[], List, ◌∷◌}
use mathlib.Core.Bool.{Bool, true, false, not}
use native.Mathlib.Nat.{div-add-mod', mod-lt, add-mul, one-mul}
use native.Mathlib.Omega.{arith}
use lib.Dec.{leb, ltb, eqb}
use lib.ListN.{length, set, length-set}
use lib.Ieee.{Float}
use lib.Ieee.Scale.{finite}
use borrow.Author.Tests.{leb-true, ltb-true, eqb-true, eqb-false, eq-eqb, ne_eqb, not-true}
use Rattle.answers.specs.Pick.{pick_true, pick_false, pick_case}
use Rattle.answers.specs.Numbers.{limit}
use Rattle.answers.proofs.Refusals.{passed, passed_both}
use Rattle.floats.specs.Functions.{zero64}
use Rattle.folds.specs.Sums.{all_finite}
use Rattle.scan.specs.Bins.{envelope_len, near_len}
use Rattle.scan.specs.State.{emptied, idle, far_rule, near_rule, keeps_rules, geometry_rule, finished, full, due, first_refusals}
use Rattle.scan.specs.Blocks.{Heard, hear, hear_all, gather, dropped, hole, held_at, first_bin, with_sample, with_block, level_of, summed}
use Rattle.scan.specs.Calls.{far_refusal, near_refusal}
use Rattle.scan.specs.declared.Geometry.{Geometry}
use Rattle.scan.specs.declared.Far.{Far}
use Rattle.scan.specs.declared.Near.{Near}
use Rattle.scan.specs.declared.Scan.{Scan}
use Rattle.scan_push.specs.Ready.{Placed, HearsAll, Gathers}
use Rattle.scan_calls.proofs.Chains.{first, second}
use Rattle.scan_calls.proofs.Passing.{pass, fits}

-- ---- the rules, taken apart

far_rule_lem : (s : Scan) → keeps_rules s ≡ true → far_rule s.geometry s.far ≡ true
unfolding keeps_rules
far_rule_lem s h = first _ _ (second (geometry_rule s) _ h)

near_rule_lem : (s : Scan) → keeps_rules s ≡ true → near_rule s.geometry s.near ≡ true
unfolding keeps_rules
near_rule_lem s h = first _ _ (second (far_rule s.geometry s.far) _ (second (geometry_rule s) _ h))

accepted_most : (g : Geometry) (f : Far) → far_rule g f ≡ true → f.accepted ≤ limit
unfolding far_rule
accepted_most g f h =
    let a = second (eqb f.next (f.accepted / g.decimation)) _ h in
    let b = second (eqb f.count (f.accepted % g.decimation)) _ a in
    leb-true f.accepted limit (second (finite f.sum) _ b)

placed : (g : Geometry) (f : Far) → 0 < g.decimation → far_rule g f ≡ true → Placed g f
unfolding far_rule
placed g f p h =
    let a = second (eqb f.next (f.accepted / g.decimation)) _ h in
    let q : f.next ≡ f.accepted / g.decimation = eqb-true _ _ (first _ _ h) in
    let c : f.count ≡ f.accepted % g.decimation = eqb-true _ _ (first _ _ a) in
    record {
      accepted = sym (div-add-mod' f.accepted g.decimation) ∙ (cc);
      partial = rw c (mod-lt f.accepted p);
    }

partial : (g : Geometry) (n : Near) → near_rule g n ≡ true → n.count < g.decimation
unfolding near_rule
partial g n h = ltb-true n.count g.decimation (first _ _ h)

not_full : (g : Geometry) (n : Near) → near_rule g n ≡ true → full g n ≡ false → n.len < g.frame
unfolding near_rule
not_full g n h e =
    let a = second (ltb n.count g.decimation) _ h in
    let b = second _ _ a in
    omega (arith, leb-true n.len g.frame (first _ _ b), eqb-false n.len g.frame e)

-- ---- what is known where a push is not refused

pub room : (s : Scan) (lengths : Bool) → first_refusals s lengths ≡ 0 → s.far.accepted ≤ limit
room s lengths z = accepted_most s.geometry s.far (far_rule_lem s (pass s lengths z).rules)

pub hears_all : (slack : ℕ) (s : Scan) (envelope xs : List Float) → far_refusal slack s envelope xs ≡ 0 → HearsAll slack s.geometry s.far envelope xs
unfolding far_refusal
hears_all slack s envelope xs z =
    let a = passed_both (first_refusals s (eqb (length envelope) (envelope_len slack (due s)))) _ z in
    let b = passed (leb (s.far.accepted + length xs) limit) 4 _ a.1 in
    let c = passed (all_finite xs) 3 _ b.1 in
    let ok = pass s _ a.0 in
    record {
      bounds = ok.bounds;
      fit = fits s (length envelope) (envelope_len slack) a.0;
      placed = placed s.geometry s.far ok.bounds.some_decimation (far_rule_lem s ok.rules);
      room = leb-true _ _ b.0;
      finite = c.0;
    }

pub divisible : (s : Scan) (levels : List Float) (x : Float) (index : ℕ) → near_refusal s levels x index ≡ 0 → 0 < s.geometry.decimation
unfolding near_refusal
divisible s levels x index z = (pass s _ (passed_both (first_refusals s (eqb (length levels) (near_len (due s)))) _ z).0).bounds.some_decimation

-- a count of the near side, which a hole sets to 0
pub held_below : (n : Near) (index : ℕ) (of : Near → ℕ) (most : ℕ) → of n < most → of (emptied n) ≡ 0 → of (held_at n index) < most
held_below n index of most below none = pick_case (λ (m : Near). of m < most) (hole n index) _ _ (λ h. omega (arith, below, none)) (λ h. below)

pub gathers : (s : Scan) (levels : List Float) (x : Float) (index : ℕ) → near_refusal s levels x index ≡ 0
    → finished s.verdict ≡ false → dropped s.geometry (held_at s.near index) index ≡ false → Gathers s.geometry (held_at s.near index) levels x
unfolding near_refusal
gathers s levels x index z unfinished kept =
    let a = passed_both (first_refusals s (eqb (length levels) (near_len (due s)))) _ z in
    let b = passed (not (full s.geometry s.near)) 5 _ (sym (pick_false (finished s.verdict) _ _ unfinished) ∙ a.1) in
    let c = passed (ltb index limit) 4 _ b.1 in
    let d = (passed _ 3 _ c.1).0 in
    let ok = pass s _ a.0 in
    let rule = near_rule_lem s ok.rules in
    let g = s.geometry in
    record {
      bounds = ok.bounds;
      fit = fits s (length levels) near_len a.0;
      partial = held_below s.near index (λ (m : Near). m.count) g.decimation (partial g s.near rule) refl;
      room = held_below s.near index (λ (m : Near). m.len) g.frame (not_full g s.near rule (not-true (full g s.near) b.0)) refl;
      finite = sym (pick_false (dropped g (held_at s.near index) index) _ _ kept) ∙ d;
    }

-- ---- whether the near side goes on with an index

pub follows_none : (last index : ℕ) → index ≡ 0 → false ≡ eqb index (last + 1)
follows_none last index z = sym (ne_eqb index (last + 1) (λ (e : index ≡ last + 1). omega (arith, z, e)))

pub follows_some : (last index : ℕ) → (index ≡ 0 → ⊥) → eqb (index - 1) last ≡ eqb index (last + 1)
follows_some last index some = go (eqb index (last + 1)) refl
  where
    go : (b : Bool) → eqb index (last + 1) ≡ b → eqb (index - 1) last ≡ b
    go true e = let k = eqb-true index (last + 1) e in eq-eqb (index - 1) last (omega (arith, k))
    go false e = ne_eqb (index - 1) last (λ (k : index - 1 ≡ last). eqb-false index (last + 1) e (omega (arith, k, some)))

module _ (n : Near) (index : ℕ) {rests : Bool} (rest : rests ≡ idle n) where
  pub held_idle : rests ≡ true → n ≡ held_at n index
  held_idle h = sym (pick_false (hole n index) _ _ (pick_false (not (idle n)) _ false (ap not (sym rest ∙ h))))

  module _ (under_way : rests ≡ false) {next : Bool} (is : next ≡ eqb index (n.last + 1)) where
    tested : hole n index ≡ not next
    tested = pick_true (not (idle n)) _ false (ap not (sym rest ∙ under_way)) ∙ ap not (sym is)

    pub held_on : next ≡ true → n ≡ held_at n index
    held_on h = sym (pick_false (hole n index) _ _ (tested ∙ ap not h))

    pub held_none : next ≡ false → emptied n ≡ held_at n index
    held_none h = sym (pick_true (hole n index) _ _ (tested ∙ ap not h))

-- ---- one far sample, by the test

module _ (slack : ℕ) (g : Geometry) (f : Far) (e : List Float) (x : Float) where
  pub completes : f.count + 1 ≡ g.decimation
      → hear slack g (record { far = f; envelope = e }) x ≡ record { far = with_block f; envelope = set e (f.next % envelope_len slack g) (level_of g (summed f.sum x)) }
  unfolding hear
  completes h = pick_true (eqb (f.count + 1) g.decimation) _ _ (eq-eqb _ _ h)

  pub goes_on : (f.count + 1 ≡ g.decimation → ⊥) → hear slack g (record { far = f; envelope = e }) x ≡ record { far = with_sample f x; envelope = e }
  unfolding hear
  goes_on h = pick_false (eqb (f.count + 1) g.decimation) _ _ (ne_eqb _ _ h)

-- ---- one near sample, by the test

module _ (g : Geometry) (n : Near) (l : List Float) (x : Float) (index : ℕ) where
  pub closes_bin : n.count + 1 ≡ g.decimation
      → gather g (record { near = n; levels = l }) x index
      ≡ record { near = record { len = n.len + 1; sum = zero64; count = 0; first = first_bin g n index; last = index }; levels = set l n.len (level_of g (summed n.sum x)) }
  unfolding gather
  closes_bin h = pick_true (eqb (n.count + 1) g.decimation) _ _ (eq-eqb _ _ h)

  pub goes_on_bin : (n.count + 1 ≡ g.decimation → ⊥)
      → gather g (record { near = n; levels = l }) x index
      ≡ record { near = record { len = n.len; sum = summed n.sum x; count = n.count + 1; first = first_bin g n index; last = index }; levels = l }
  unfolding gather
  goes_on_bin h = pick_false (eqb (n.count + 1) g.decimation) _ _ (ne_eqb _ _ h)

-- ---- the loop over a push

abbrev pub Ready : ℕ → Geometry → Heard → List Float → Type 0
Ready slack g h xs = HearsAll slack g h.far h.envelope xs

pub hear_ready : (slack : ℕ) (g : Geometry) (h : Heard) (x : Float) (xs : List Float) → Ready slack g h (x ∷ xs) → Ready slack g (hear slack g h x) xs
unfolding hear all_finite
hear_ready slack g h x xs r =
    let D = g.decimation in
    let p = r.placed in
    let m : (h.far.next + 1) * D ≡ h.far.next * D + D = add-mul h.far.next 1 D ∙ ap (λ (z : ℕ). h.far.next * D + z) (one-mul D) in
    pick_case (λ (z : Heard). Ready slack g z xs) (eqb (h.far.count + 1) D) _ _
    (λ t. let e = eqb-true (h.far.count + 1) D t in
    record {
      bounds = r.bounds;
      fit = simp length-set r.fit;
      placed = record { accepted = omega (arith, p.accepted, m, e); partial = r.bounds.some_decimation };
      room = omega (arith, r.room);
      finite = second (finite x) _ r.finite;
    })
    (λ t. record {
      bounds = r.bounds;
      fit = r.fit;
      placed = record { accepted = omega (arith, p.accepted); partial = omega (arith, p.partial, eqb-false (h.far.count + 1) D t) };
      room = omega (arith, r.room);
      finite = second (finite x) _ r.finite;
    })

-- the far side is h, and what is left of a push on h₀ leaves from here on what the whole push leaves
pub record Going (slack : ℕ) (g : Geometry) (h₀ : Heard) (xs : List Float) (h : Heard) (rest : List Float) : Type 0 where
  pub left : Ready slack g h rest
  pub whole : hear_all slack g h rest ≡ hear_all slack g h₀ xs

module _ (slack : ℕ) (g : Geometry) (h₀ : Heard) (xs : List Float) where
  pub starts : Ready slack g h₀ xs → Going slack g h₀ xs h₀ xs
  starts r = record { left = r; whole = refl }

  pub ends : (h : Heard) (rest : List Float) → length rest ≡ 0 → Going slack g h₀ xs h rest → h ≡ hear_all slack g h₀ xs
  unfolding hear_all
  ends h [] l k = k.whole
  ends h (x ∷ rest) l k = absurd (omega arith)
