-- What every call keeps true of a stream's own state and buffers, part by part. The state rules follow, so that 1 and 3 refuse nothing.
use Prim.Native.Nat.{ℕ, ◌+◌, ◌*◌, ◌/◌, ◌%◌, ◌≤◌, ◌<◌}
use mathlib.Core.Path.{◌≡◌, sym, ap, ◌∙◌}
use mathlib.Core.List.{List}
use mathlib.Core.Bool.{Bool, true, not}
use native.Mathlib.Nat.{mul-add-mod_self_right, mod-eq_of_lt}
use lib.Dec.{eqb}
use lib.ListN.{length, take}
use lib.Ieee.{Float}
use borrow.Author.Tests.{eqb-true, lt-ltb, le-leb, eq-eqb, not-false}
use Rattle.answers.specs.Pick.{pick}
use Rattle.answers.specs.Refusals.{require, none}
use Rattle.answers.specs.Numbers.{limit}
use Rattle.floats.proofs.Levels.{AtMost, at_most_finite}
use Rattle.scan.specs.Bins.{envelope_len, lags}
use Rattle.scan.specs.State.{World, finished, full, idle, taken, due, far_rule, near_rule, verdict_rule, keeps_rules, first_refusals}
use Rattle.scan.specs.Blocks.{Heard, Seen}
use Rattle.scan.specs.declared.Geometry.{Geometry}
use Rattle.scan.specs.declared.Near.{Near}
use Rattle.scan.specs.declared.Verdict.{Verdict}
use Rattle.scan.proofs.Laws.{either_or, both_and, All}
use Rattle.scan.proofs.Settings.{Allowed, same_geometry_lem}
use Rattle.scan.proofs.Sizes.{Size}
use Rattle.scan.proofs.Scores.{score_bits}
use Rattle.scan.proofs.Hears.{HeardSound, block_now}
use Rattle.scan.proofs.Held.{Placed}

abbrev pub heard_in : World → Heard
heard_in w = record { far = w.scan.far; envelope = w.buffers.envelope }

abbrev pub seen_in : World → Seen
seen_in w = record { near = w.scan.near; levels = w.buffers.levels }

pub record FarSound (slack : ℕ) (g : Geometry) (h : Heard) : Type 0 where
  pub heard : HeardSound g h
  pub accepted : h.far.accepted ≤ limit
  pub length : lib.ListN.length h.envelope ≡ envelope_len slack g

pub record NearSound (g : Geometry) (t : Seen) : Type 0 where
  pub partial : t.near.count < g.decimation
  pub whole : t.near.len ≡ g.frame → t.near.count ≡ 0
  pub len : t.near.len ≤ g.frame
  pub sum : AtMost t.near.count t.near.sum
  pub first : t.near.first * g.decimation < limit
  pub placed : Placed g t.near
  pub levels : All (AtMost 1) (take t.near.len t.levels)

pub record VerdictSound (n : Near) (v : Verdict) : Type 0 where
  pub banked : v.banked < 4
  pub rests : finished v ≡ true → idle n ≡ true

-- the lag sums are sums of as many scores as frames are banked
pub record SumsSound (g : Geometry) (banked : ℕ) (lag_sums : List Float) : Type 0 where
  pub length : lib.ListN.length lag_sums ≡ lags g
  pub sizes : All (Size banked score_bits) lag_sums

pub record Sound (slack : ℕ) (w : World) : Type 0 where
  pub allowed : Allowed w.scan.geometry
  pub far : FarSound slack w.scan.geometry (heard_in w)
  pub near : NearSound w.scan.geometry (seen_in w)
  pub verdict : VerdictSound w.scan.near w.scan.verdict
  pub lag_sums : SumsSound w.scan.geometry w.scan.verdict.banked w.buffers.lag_sums

-- ---- the state rules hold, so that 1 and 3 refuse nothing

far_rule_lem : (slack : ℕ) (g : Geometry) (h : Heard) → FarSound slack g h → far_rule g h.far ≡ true
unfolding far_rule
far_rule_lem slack g h s =
    let f = h.far in
    let p : f.count < g.decimation = s.heard.partial in
    let a : f.next ≡ f.accepted / g.decimation = block_now g h s.heard in
    let b : f.count ≡ f.accepted % g.decimation = sym (ap (λ (n : ℕ). n % g.decimation) s.heard.placed ∙ mul-add-mod_self_right f.next g.decimation f.count ∙ mod-eq_of_lt p) in
    both_and _ _ (eq-eqb f.next (f.accepted / g.decimation) a)
    (both_and _ _ (eq-eqb f.count (f.accepted % g.decimation) b) (both_and _ _ (at_most_finite f.count f.sum s.heard.sum) (le-leb f.accepted limit s.accepted)))

near_rule_lem : (g : Geometry) (t : Seen) → NearSound g t → near_rule g t.near ≡ true
unfolding near_rule
near_rule_lem g t s =
    let n = t.near in
    both_and _ _ (lt-ltb n.count g.decimation s.partial)
    (both_and _ _ (either_or (not (full g n)) (eqb n.count 0) (λ e. eq-eqb n.count 0 (s.whole (eqb-true n.len g.frame (not-false (full g n) e)))))
    (both_and _ _ (le-leb n.len g.frame s.len)
    (both_and _ _ (at_most_finite n.count n.sum s.sum) (both_and _ _ (lt-ltb (n.first * g.decimation) limit s.first)
    (either_or (idle n) _ (λ i. eq-eqb (n.last + 1) (n.first * g.decimation + taken g n) (s.placed i)))))))

verdict_rule_lem : (n : Near) (v : Verdict) → VerdictSound n v → verdict_rule n v ≡ true
unfolding verdict_rule
verdict_rule_lem n v s = both_and _ _ (lt-ltb v.banked 4 s.banked) (either_or (not (finished v)) (idle n) (λ e. s.rests (not-false (finished v) e)))

pub rules_hold : (slack : ℕ) (w : World) → Sound slack w → keeps_rules w.scan ≡ true
unfolding keeps_rules
rules_hold slack w s =
    both_and _ _ (same_geometry_lem w.scan.geometry (due w.scan) s.allowed.follows)
    (both_and _ _ (far_rule_lem slack w.scan.geometry (heard_in w) s.far) (both_and _ _ (near_rule_lem w.scan.geometry (seen_in w) s.near) (verdict_rule_lem w.scan.near w.scan.verdict s.verdict)))

-- what is left of refusals 1, 2 and 3
pub first_refusals_lem : (slack : ℕ) (w : World) → Sound slack w → (lengths : Bool) → first_refusals w.scan lengths ≡ require lengths 2 none
unfolding first_refusals pick
first_refusals_lem slack w s lengths = rw (s.allowed.inside, rules_hold slack w s)
