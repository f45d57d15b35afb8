-- What is known of a state that refusals 1, 2 and 3 let pass.
use Prim.Native.Nat.{ℕ, ◌+◌, ◌-◌, ◌*◌, ◌/◌, ◌%◌, ◌^◌, ◌≤◌, ◌<◌, max}
use mathlib.Core.Path.{◌≡◌, refl, sym, ap, ◌∙◌}
use mathlib.Core.Bool.{Bool, true, false}
use native.Mathlib.Nat.{add-zero, mod-lt, mul-add-div_right, mul-add-mod_self_right, div-eq_of_lt, mod-eq_of_lt, div-add-mod', max-le, le-max_left, div-le_self, div-le_of_le-mul, le_trans, mul-le-mul, le-div_iff_mul-le, div-lt_iff_lt-mul}
use native.Mathlib.Omega.{arith}
use lib.Dec.{leb, ltb, eqb}
use borrow.Author.Tests.{leb-true, leb-false, eqb-true, eqb-false, eq-eqb, ne_eqb, lt-ltb, le-ltb}
use Rattle.answers.specs.Pick.{pick, both, pick_true}
use Rattle.answers.specs.Numbers.{limit, allowed_rate}
use Rattle.answers.proofs.Refusals.{passed}
use Rattle.scan.specs.Bins.{in_table, geometry_of, same_geometry, decimation_of, bin_rate_of}
use Rattle.scan.specs.State.{idle, taken, geometry_rule, keeps_rules, first_refusals, due}
use Rattle.scan.specs.declared.Geometry.{Geometry}
use Rattle.scan.specs.declared.Near.{Near}
use Rattle.scan.specs.declared.Scan.{Scan}
use Rattle.scan_calls.specs.Bounds.{Bounds, Places}
use Rattle.scan_calls.proofs.Chains.{equal, first, second}

-- n x d below m + 1, by a division
pub product_below : (n d m : ℕ) → 0 < d → leb n (m / d) ≡ ltb (n * d) (m + 1)
product_below n d m h = go (leb n (m / d)) refl
  where
    go : (b : Bool) → leb n (m / d) ≡ b → b ≡ ltb (n * d) (m + 1)
    go true e = let k = (le-div_iff_mul-le h).0 (leb-true n (m / d) e) in sym (lt-ltb (n * d) (m + 1) (omega (arith, k)))
    go false e = let k = (div-lt_iff_lt-mul h).0 (leb-false n (m / d) e) in sym (le-ltb (n * d) (m + 1) (omega (arith, k)))

-- a small bin times any decimation
pub product : (n d : ℕ) → n < 2 ^ 54 → d ≤ 192 → n * d ≤ (2 ^ 54 - 1) * 192
product n d h k = let small : n ≤ 2 ^ 54 - 1 = omega (arith, h) in mul-le-mul small k

pub small_product : (n d : ℕ) → n < 2 ^ 54 → d ≤ 192 → ltb (n * d) limit ≡ true
small_product n d h k = lt-ltb (n * d) limit (omega (arith, product n d h k))

not_both : (a b : Bool) → (a ≡ true → b ≡ true → ⊥) → false ≡ both a b
unfolding pick
not_both true true k = absurd (k refl refl)
not_both true false k = refl
not_both false b k = refl

-- two tests in one are the first two of a chain
pub as_chain : (a b c : Bool) → both (both a b) c ≡ both a (both b c)
unfolding pick
as_chain true b c = refl
as_chain false b c = refl

-- quotient and remainder, told by a product
pub told_by_product : (n d q r : ℕ) → 0 < d → r < d → eqb (q * d + r) n ≡ both (eqb q (n / d)) (eqb r (n % d))
told_by_product n d q r h below = go (eqb (q * d + r) n) refl
  where
    -- what the product says of both
    from : q * d + r ≡ n → (q ≡ n / d) × (r ≡ n % d)
    from e =
        let left : q ≡ (q * d + r) / d = sym (mul-add-div_right h q r ∙ ap (λ (k : ℕ). q + k) (div-eq_of_lt below) ∙ add-zero q) in
        let right : r ≡ (q * d + r) % d = sym (mul-add-mod_self_right q d r ∙ mod-eq_of_lt below) in
        (left ∙ ap (λ (k : ℕ). k / d) e, right ∙ ap (λ (k : ℕ). k % d) e)

    go : (b : Bool) → eqb (q * d + r) n ≡ b → b ≡ both (eqb q (n / d)) (eqb r (n % d))
    go true e = let k = from (eqb-true (q * d + r) n e) in equal k.0 (sym (eq-eqb r (n % d) k.1))
    go false e = not_both (eqb q (n / d)) (eqb r (n % d)) (λ a b. eqb-false (q * d + r) n e (ap (λ (k : ℕ). k * d + r) (eqb-true q (n / d) a) ∙ ap (λ (k : ℕ). n / d * d + k) (eqb-true r (n % d) b) ∙ div-add-mod' n d))

-- a remainder is below the divisor
pub no_remainder : (n d q r : ℕ) → 0 < d → d ≤ r → false ≡ both (eqb q (n / d)) (eqb r (n % d))
no_remainder n d q r h over = not_both (eqb q (n / d)) (eqb r (n % d)) (λ a b. absurd (omega (arith, over, eqb-true r (n % d) b, mod-lt n h)))

-- one less on one side is one more on the other
pub one_below : (n m : ℕ) → 1 ≤ m → eqb n (m - 1) ≡ eqb (n + 1) m
one_below n m h = go (eqb (n + 1) m) refl
  where
    go : (b : Bool) → eqb (n + 1) m ≡ b → eqb n (m - 1) ≡ b
    go true e = let k = eqb-true (n + 1) m e in eq-eqb n (m - 1) (omega (arith, k, h))
    go false e = ne_eqb n (m - 1) (λ (k : n ≡ m - 1). eqb-false (n + 1) m e (omega (arith, k, h)))

-- ---- the samples of a frame under way: few, and at least one

pub blocks_small : (g : Geometry) (n : Near) → Places g n → n.len * g.decimation ≤ 9437184
blocks_small g n p = mul-le-mul p.len p.decimation

pub some_taken : (g : Geometry) (n : Near) → 1 ≤ g.decimation → idle n ≡ false → 1 ≤ taken g n
some_taken g n d i = go (eqb n.count 0) refl
  where
    go : (b : Bool) → eqb n.count 0 ≡ b → 1 ≤ taken g n
    go true e =
        let l = eqb-false n.len 0 (sym (pick_true (eqb n.count 0) _ false e) ∙ i) in
        let some : 1 ≤ n.len = omega (arith, l) in
        let k : 1 * 1 ≤ n.len * g.decimation = mul-le-mul some d in
        omega (arith, k)
    go false e = let k = eqb-false n.count 0 e in omega (arith, k)

-- ---- 1: what rate and ceiling within the table give

bin_rate_most : (rate d : ℕ) → rate ≤ 192000 → max 1 (rate / d) ≤ 192000
bin_rate_most rate d h = max-le (omega arith) (le_trans (div-le_self rate d) h)

ms_most : (ms rate m most : ℕ) → ms ≤ m → rate ≤ 192000 → m * 192000 ≤ 1000 * most → 1 ≤ most → max 1 (ms * rate / 1000) ≤ most
ms_most ms rate m most h i j o = max-le o (div-le_of_le-mul 1000 (le_trans (mul-le-mul h i) j))

pub bounds : (rate ceiling : ℕ) → in_table rate ceiling ≡ true → Bounds (geometry_of rate ceiling)
unfolding in_table geometry_of
bounds rate ceiling t =
    let r : rate ≤ 192000 = leb-true rate 192000 (second (leb 8000 rate) _ (first (allowed_rate rate) _ t)) in
    let m : ceiling ≤ 4000 = leb-true ceiling 4000 (second (leb 1 ceiling) _ (second (allowed_rate rate) _ t)) in
    let b = bin_rate_most rate (decimation_of rate) r in
    record {
      some_decimation = le-max_left 1 _;
      decimation = max-le (omega arith) (omega arith);
      some_frame = le-max_left 1 _;
      frame = ms_most 256 (bin_rate_of rate) 256 49152 (omega arith) b (omega arith) (omega arith);
      some_span = le-max_left 1 _;
      span = ms_most ceiling (bin_rate_of rate) 4000 768000 m b (omega arith) (omega arith);
      ceiling_guard = ms_most 8 (bin_rate_of rate) 256 49152 (omega arith) b (omega arith) (omega arith);
      peak_guard = ms_most 30 (bin_rate_of rate) 256 49152 (omega arith) b (omega arith) (omega arith);
    }

-- ---- 3: the geometry is what rate and ceiling give

abbrev anew : Geometry → Geometry
anew g =
    record {
      rate = g.rate;
      ceiling = g.ceiling;
      decimation = g.decimation;
      bin_rate = g.bin_rate;
      span = g.span;
      frame = g.frame;
      ceiling_guard = g.ceiling_guard;
      peak_guard = g.peak_guard;
    }

geometry_is : (g h : Geometry) → g.rate ≡ h.rate → g.ceiling ≡ h.ceiling → same_geometry g h ≡ true → g ≡ h
unfolding same_geometry
geometry_is g h r m t =
    let a = second (eqb g.decimation h.decimation) _ t in
    let b = second (eqb g.bin_rate h.bin_rate) _ a in
    let c = second (eqb g.span h.span) _ b in
    let d = second (eqb g.frame h.frame) _ c in
    let f₁ : g.decimation ≡ h.decimation = eqb-true _ _ (first _ _ t) in
    let f₂ : g.bin_rate ≡ h.bin_rate = eqb-true _ _ (first _ _ a) in
    let f₃ : g.span ≡ h.span = eqb-true _ _ (first _ _ b) in
    let f₄ : g.frame ≡ h.frame = eqb-true _ _ (first _ _ c) in
    let f₅ : g.ceiling_guard ≡ h.ceiling_guard = eqb-true _ _ (first _ _ d) in
    let f₆ : g.peak_guard ≡ h.peak_guard = eqb-true _ _ (second (eqb g.ceiling_guard h.ceiling_guard) _ d) in
    let same : anew g ≡ anew h = cc in
    same

pub due_is : (s : Scan) → geometry_rule s ≡ true → s.geometry ≡ due s
unfolding geometry_of
due_is s h = geometry_is s.geometry (due s) refl refl h

pub keeps_bounds : (s : Scan) → in_table s.geometry.rate s.geometry.ceiling ≡ true → geometry_rule s ≡ true → Bounds s.geometry
keeps_bounds s t h = rw (due_is s h) (bounds s.geometry.rate s.geometry.ceiling t)

-- ---- together

pub record Passed (s : Scan) (lengths : Bool) : Type 0 where
  pub geometry : s.geometry ≡ due s
  pub bounds : Bounds s.geometry
  pub fit : lengths ≡ true
  pub rules : keeps_rules s ≡ true

pub pass : (s : Scan) (lengths : Bool) → first_refusals s lengths ≡ 0 → Passed s lengths
unfolding first_refusals keeps_rules
pass s lengths z =
    let one = passed (in_table s.geometry.rate s.geometry.ceiling) 0 _ z in
    let two = passed lengths 1 _ one.1 in
    let rules = (passed (keeps_rules s) 2 _ two.1).0 in
    let same = due_is s (first (geometry_rule s) _ rules) in
    record { geometry = same; bounds = keeps_bounds s one.0 (first (geometry_rule s) _ rules); fit = two.0; rules = rules }

-- a length that passes is the state's own
pub fits : (s : Scan) (n : ℕ) (due-length : Geometry → ℕ) → first_refusals s (eqb n (due-length (due s))) ≡ 0 → n ≡ due-length s.geometry
fits s n due-length z = let ok = pass s _ z in eqb-true _ _ ok.fit ∙ ap due-length (sym ok.geometry)
