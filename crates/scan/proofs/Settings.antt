-- What is known of a geometry that follows from a rate and a ceiling of the table.
use Prim.Native.Nat.{ℕ, ◌*◌, ◌/◌, ◌≤◌, ◌<◌}
use mathlib.Core.Path.{◌≡◌, refl, sym, subst}
use mathlib.Core.Bool.{true}
use native.Mathlib.Nat.{mul-le-mul, div-lt_iff_lt-mul}
use native.Mathlib.Omega.{arith}
use lib.Dec.{leb, eqb}
use borrow.Author.Tests.{leb-true, eqb-true, eq-eqb}
use Rattle.answers.specs.Numbers.{allowed_rate, allowed_ceiling}
use Rattle.scan.specs.Bins.{in_table, decimation_of, bin_rate_of, geometry_of, same_geometry, window_len}
use Rattle.scan.specs.declared.Geometry.{Geometry}
use Rattle.scan.proofs.Laws.{both_and, both_left, both_right}

pub record Allowed (g : Geometry) : Type 0 where
  pub inside : in_table g.rate g.ceiling ≡ true
  pub follows : g ≡ geometry_of g.rate g.ceiling

pub allowed : (rate ceiling : ℕ) → in_table rate ceiling ≡ true → Allowed (geometry_of rate ceiling)
unfolding geometry_of
allowed rate ceiling t = record { inside = t; follows = refl }

few_of : (rate ceiling : ℕ) → in_table rate ceiling ≡ true → (geometry_of rate ceiling).decimation ≤ 192
unfolding in_table geometry_of
few_of rate ceiling t =
    let h : rate ≤ 192000 = leb-true rate 192000 (both_right (leb 8000 rate) (leb rate 192000) (both_left (allowed_rate rate) (allowed_ceiling ceiling) t)) in
    omega arith

some_of : (rate ceiling : ℕ) → 0 < (geometry_of rate ceiling).decimation
unfolding geometry_of
some_of rate ceiling = omega arith

wide_of : (rate ceiling : ℕ) → 0 < (geometry_of rate ceiling).frame
unfolding geometry_of
wide_of rate ceiling = omega arith

module _ (g : Geometry) (a : Allowed g) where
  pub few : g.decimation ≤ 192
  few = subst (λ (h : Geometry). h.decimation ≤ 192) (sym a.follows) (few_of g.rate g.ceiling a.inside)

  pub some : 0 < g.decimation
  some = subst (λ (h : Geometry). 0 < h.decimation) (sym a.follows) (some_of g.rate g.ceiling)

  pub wide : 0 < g.frame
  wide = subst (λ (h : Geometry). 0 < h.frame) (sym a.follows) (wide_of g.rate g.ceiling)

-- a geometry is the same as itself
pub same_geometry_lem : (g h : Geometry) → g ≡ h → same_geometry g h ≡ true
same_geometry_lem g h e = subst (λ (z : Geometry). same_geometry g z ≡ true) e (unfold same_geometry in
    both_and (eqb g.decimation g.decimation) _ (eq-eqb g.decimation g.decimation refl)
    (both_and (eqb g.bin_rate g.bin_rate) _ (eq-eqb g.bin_rate g.bin_rate refl)
    (both_and (eqb g.span g.span) _ (eq-eqb g.span g.span refl)
    (both_and (eqb g.frame g.frame) _ (eq-eqb g.frame g.frame refl)
    (both_and (eqb g.ceiling_guard g.ceiling_guard) _ (eq-eqb g.ceiling_guard g.ceiling_guard refl) (eq-eqb g.peak_guard g.peak_guard refl))))))

-- and a geometry is known by its rate, its ceiling and that test
pub geometry_by : (g h : Geometry) → g.rate ≡ h.rate → g.ceiling ≡ h.ceiling → same_geometry g h ≡ true → g ≡ h
unfolding same_geometry
geometry_by g h r c t =
    let e₁ = both_right (eqb g.decimation h.decimation) _ t in
    let e₂ = both_right (eqb g.bin_rate h.bin_rate) _ e₁ in
    let e₃ = both_right (eqb g.span h.span) _ e₂ in
    let e₄ = both_right (eqb g.frame h.frame) _ e₃ in
    λ i. record {
      rate = r i;
      ceiling = c i;
      decimation = eqb-true g.decimation h.decimation (both_left (eqb g.decimation h.decimation) _ t) i;
      bin_rate = eqb-true g.bin_rate h.bin_rate (both_left (eqb g.bin_rate h.bin_rate) _ e₁) i;
      span = eqb-true g.span h.span (both_left (eqb g.span h.span) _ e₂) i;
      frame = eqb-true g.frame h.frame (both_left (eqb g.frame h.frame) _ e₃) i;
      ceiling_guard = eqb-true g.ceiling_guard h.ceiling_guard (both_left (eqb g.ceiling_guard h.ceiling_guard) _ e₄) i;
      peak_guard = eqb-true g.peak_guard h.peak_guard (both_right (eqb g.ceiling_guard h.ceiling_guard) _ e₄) i;
    }

-- ---- how long a window can be

rate_bound : (rate : ℕ) → bin_rate_of rate ≤ 1500
rate_bound rate =
    let p : 0 < decimation_of rate = omega arith in
    let m : rate < 1501 * decimation_of rate = omega arith in
    let l : rate / decimation_of rate < 1501 = (div-lt_iff_lt-mul p).1 m in
    omega arith

short_of_lem : (rate ceiling : ℕ) → in_table rate ceiling ≡ true → window_len (geometry_of rate ceiling) ≤ 8000
unfolding in_table geometry_of
short_of_lem rate ceiling t =
    let c : ceiling ≤ 4000 = leb-true ceiling 4000 (both_right (leb 1 ceiling) (leb ceiling 4000) (both_right (allowed_rate rate) (allowed_ceiling ceiling) t)) in
    let p : ceiling * bin_rate_of rate ≤ 4000 * 1500 = mul-le-mul c (rate_bound rate) in
    omega (arith, rate_bound rate)

pub short : (g : Geometry) → Allowed g → window_len g ≤ 8000
short g a = subst (λ (h : Geometry). window_len h ≤ 8000) (sym a.follows) (short_of_lem g.rate g.ceiling a.inside)
