-- "2 and 3 judge only the common part": a new channel keeps every rule where the geometry does, so that a call that names no channel is judged by the geometry and the far side alone.
use Prim.Native.Nat.{ℕ, ◌*◌, ◌<◌}
use mathlib.Core.Path.{◌≡◌, refl, sym, ap, ◌∙◌}
use mathlib.Core.Bool.{Bool, true, false, not}
use native.Mathlib.Omega.{arith}
use lib.Dec.{leb, ltb, lit<}
use borrow.Author.Tests.{lt-ltb, le-leb}
use Rattle.answers.specs.Pick.{pick, both}
use Rattle.answers.specs.Refusals.{require, none, outside_table, wrong_length, broken_state}
use Rattle.answers.specs.Numbers.{limit}
use Rattle.scan.specs.Bins.{in_table, geometry_of}
use Rattle.scan.specs.State.{new_near, new_verdict, full, due, geometry_rule, far_rule, near_rule, verdict_rule, keeps_rules, first_refusals}
use Rattle.scan.specs.declared.Geometry.{Geometry}
use Rattle.scan.proofs.Laws.{both_and, both_left, both_right, either_or}
use Rattle.scan.proofs.Settings.{geometry_by}
use Rattle.scan_pair.specs.declared.Channel.{Channel}
use Rattle.scan_pair.specs.declared.Pair.{Pair}
use Rattle.scan_pair.specs.State.{as_scan, common}

-- a geometry that follows has at least one sample a block
some_samples_lem : (p : Pair) → geometry_rule (common p) ≡ true → 0 < p.geometry.decimation
unfolding geometry_of
some_samples_lem p t =
    let e : p.geometry ≡ due (common p) = geometry_by p.geometry (due (common p)) refl refl t in
    let d : p.geometry.decimation ≡ (due (common p)).decimation = ap (λ (g : Geometry). g.decimation) e in
    omega arith

new_near_lem : (p : Pair) → geometry_rule (common p) ≡ true → near_rule p.geometry new_near ≡ true
unfolding near_rule pick
new_near_lem p t =
    let g = p.geometry in
    both_and (ltb 0 g.decimation) _ (lt-ltb 0 g.decimation (some_samples_lem p t))
    (both_and _ _ (either_or (not (full g new_near)) _ (λ e. refl)) (both_and (leb 0 g.frame) _ (le-leb 0 g.frame (omega arith)) (both_and _ _ refl (both_and (ltb (0 * g.decimation) limit) _ (lt-ltb (0 * g.decimation) limit (omega (arith, lit< {m = 0} {n = limit} tt))) refl))))

new_verdict_lem : verdict_rule new_near new_verdict ≡ true
unfolding verdict_rule pick
new_verdict_lem = refl

-- where one rule brings the rest with it
first_alone : (t f n : Bool) → (t ≡ true → n ≡ true) → both t (both f n) ≡ both t f
unfolding pick
first_alone true true n h = h refl
first_alone true false n h = refl
first_alone false f n h = refl

common_rules : (p : Pair) → keeps_rules (common p) ≡ both (geometry_rule (common p)) (far_rule p.geometry p.far)
unfolding keeps_rules
common_rules p = first_alone (geometry_rule (common p)) (far_rule p.geometry p.far) _ (λ t. both_and (near_rule p.geometry new_near) (verdict_rule new_near new_verdict) (new_near_lem p t) new_verdict_lem)

-- ---- what 1, 2 and 3 come to where no channel is named

abbrev pub common_refusals : Pair → Bool → ℕ
common_refusals p lengths =
    require (in_table p.geometry.rate p.geometry.ceiling) outside_table
    (require lengths wrong_length
    (require (both (geometry_rule (common p)) (far_rule p.geometry p.far)) broken_state
    none))

pub common_judges : (p : Pair) (lengths : Bool) → first_refusals (common p) lengths ≡ common_refusals p lengths
unfolding first_refusals
common_judges p lengths = ap (λ (t : Bool). require (in_table p.geometry.rate p.geometry.ceiling) outside_table (require lengths wrong_length (require t broken_state none))) (common_rules p)

-- a channel that keeps its rules has nothing to add
pub channel_adds_none : (p : Pair) (k : Channel) → keeps_rules (as_scan p k) ≡ true → (lengths : Bool) → first_refusals (common p) lengths ≡ first_refusals (as_scan p k) lengths
unfolding first_refusals
channel_adds_none p k r lengths = ap (λ (t : Bool). require (in_table p.geometry.rate p.geometry.ceiling) outside_table (require lengths wrong_length (require t broken_state none))) (both_rules ∙ sym r)
  where
    both_rules : keeps_rules (common p) ≡ true
    both_rules =
        let s : both (geometry_rule (common p)) (both (far_rule p.geometry p.far) (both (near_rule p.geometry k.near) (verdict_rule k.near k.verdict))) ≡ true = (unfold keeps_rules in r) in
        common_rules p ∙ both_and (geometry_rule (common p)) _ (both_left (geometry_rule (common p)) _ s) (both_left (far_rule p.geometry p.far) _ (both_right (geometry_rule (common p)) _ s))
