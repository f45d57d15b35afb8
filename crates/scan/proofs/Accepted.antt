-- What is known of a call that is not refused: each line of its list of refusals was passed.
use Prim.Native.Nat.{ℕ, ◌+◌, ◌≤◌, ◌<◌}
use mathlib.Core.Path.{◌≡◌, refl, sym, ◌∙◌, subst}
use mathlib.Core.List.{List}
use mathlib.Core.Bool.{Bool, true, false, not}
use lib.Dec.{leb, ltb, eqb}
use lib.ListN.{length}
use lib.Ieee.{Float}
use lib.Ieee.Scale.{finite}
use borrow.Author.Tests.{ltb-true, leb-true, eqb-true, not-true}
use Rattle.answers.specs.Pick.{either, pick_false}
use Rattle.answers.specs.Refusals.{none}
use Rattle.answers.specs.Numbers.{limit}
use Rattle.answers.proofs.Refusals.{passed, passed_both}
use Rattle.folds.specs.Sums.{all_finite}
use Rattle.scan.specs.Bins.{in_table, geometry_of, envelope_len, near_len, window_len, prefix_len, lags}
use Rattle.scan.specs.State.{Buffers, World, finished, full, due, geometry_rule, keeps_rules, first_refusals}
use Rattle.scan.specs.Blocks.{dropped, held_at}
use Rattle.scan.specs.Calls.{all_lengths, far_refusal, near_refusal, score_refusal}
use Rattle.scan.specs.declared.Geometry.{Geometry}
use Rattle.scan.specs.declared.Scan.{Scan}
use Rattle.scan.proofs.Laws.{both_left, both_right}
use Rattle.scan.proofs.Settings.{Allowed, geometry_by}

pub record FirstPassed (s : Scan) (judged : Bool) : Type 0 where
  pub inside : in_table s.geometry.rate s.geometry.ceiling ≡ true
  pub lengths : judged ≡ true
  pub rules : keeps_rules s ≡ true

pub first_passed : (s : Scan) (lengths : Bool) → first_refusals s lengths ≡ 0 → FirstPassed s lengths
unfolding first_refusals
first_passed s lengths z =
    let a = passed (in_table s.geometry.rate s.geometry.ceiling) 0 _ z in
    let b = passed lengths 1 _ a.1 in
    record { inside = a.0; lengths = b.0; rules = (passed (keeps_rules s) 2 none b.1).0 }

pub follows_by : (s : Scan) → keeps_rules s ≡ true → s.geometry ≡ due s
unfolding keeps_rules geometry_of
follows_by s r = geometry_by s.geometry (due s) refl refl (both_left (geometry_rule s) _ r)

pub record FarTaken (w : World) (xs : List Float) : Type 0 where
  pub room : w.scan.far.accepted + length xs ≤ limit
  pub finite : all_finite xs ≡ true

pub far_taken : (slack : ℕ) (w : World) (xs : List Float) → far_refusal slack w.scan w.buffers.envelope xs ≡ 0 → FarTaken w xs
unfolding far_refusal
far_taken slack w xs z =
    let a = passed (leb (w.scan.far.accepted + length xs) limit) 4 _ (passed_both (first_refusals w.scan _) _ z).1 in
    record { room = leb-true (w.scan.far.accepted + length xs) limit a.0; finite = (passed (all_finite xs) 3 none a.1).0 }

pub record NearTaken (w : World) (x : Float) (index : ℕ) : Type 0 where
  pub length : lib.ListN.length w.buffers.levels ≡ near_len (due w.scan)
  pub room : full w.scan.geometry w.scan.near ≡ false
  pub small : index < limit
  pub finite : lib.Ieee.Scale.finite x ≡ true

pub near_taken : (w : World) (x : Float) (index : ℕ) → near_refusal w.scan w.buffers.levels x index ≡ 0 → finished w.scan.verdict ≡ false
    → dropped w.scan.geometry (held_at w.scan.near index) index ≡ false → NearTaken w x index
unfolding near_refusal
near_taken w x index z f d =
    let a = passed_both (first_refusals w.scan _) _ z in
    let b = passed (not (full w.scan.geometry w.scan.near)) 5 _ (sym (pick_false (finished w.scan.verdict) _ _ f) ∙ a.1) in
    let c = passed (ltb index limit) 4 _ b.1 in
    record {
      length = eqb-true (length w.buffers.levels) _ (first_passed w.scan _ a.0).lengths;
      room = not-true (full w.scan.geometry w.scan.near) b.0;
      small = ltb-true index limit c.0;
      finite = sym (pick_false (dropped w.scan.geometry (held_at w.scan.near index) index) true (finite x) d) ∙ (passed (either (dropped w.scan.geometry (held_at w.scan.near index) index) (finite x)) 3 none c.1).0;
    }

pub record Scoreable (slack : ℕ) (w : World) : Type 0 where
  pub lengths : all_lengths slack (due w.scan) w.buffers ≡ true
  pub full : Rattle.scan.specs.State.full w.scan.geometry w.scan.near ≡ true

pub scoreable : (slack : ℕ) (w : World) → score_refusal slack w ≡ 0 → Scoreable slack w
unfolding score_refusal
scoreable slack w z =
    let a = passed_both (first_refusals w.scan (all_lengths slack (due w.scan) w.buffers)) _ z in
    record { lengths = (first_passed w.scan (all_lengths slack (due w.scan) w.buffers) a.0).lengths; full = (passed (full w.scan.geometry w.scan.near) 6 _ a.1).0 }

-- the lengths of the buffers that scoring reads and fills, where the geometry is the one that follows from rate and ceiling
pub record RightLengths (g : Geometry) (b : Buffers) : Type 0 where
  pub levels : length b.levels ≡ near_len g
  pub window : length b.window ≡ window_len g
  pub prefix : length b.prefix ≡ prefix_len g
  pub squares : length b.squares ≡ prefix_len g
  pub scores : length b.scores ≡ lags g

pub right_lengths : (slack : ℕ) (w : World) → Allowed w.scan.geometry → score_refusal slack w ≡ 0 → RightLengths w.scan.geometry w.buffers
right_lengths slack w a z =
    let g = w.scan.geometry in
    let b = w.buffers in
    let all : all_lengths slack g b ≡ true = subst (λ (h : Geometry). all_lengths slack h b ≡ true) (sym a.follows) (scoreable slack w z).lengths in
    let e₁ = both_right (eqb (length b.envelope) (envelope_len slack g)) _ all in
    let e₂ = both_right (eqb (length b.levels) (near_len g)) _ e₁ in
    let e₃ = both_right (eqb (length b.window) (window_len g)) _ e₂ in
    let e₄ = both_right (eqb (length b.prefix) (prefix_len g)) _ e₃ in
    let e₅ = both_right (eqb (length b.squares) (prefix_len g)) _ e₄ in
    record {
      levels = eqb-true (length b.levels) (near_len g) (both_left (eqb (length b.levels) (near_len g)) _ e₁);
      window = eqb-true (length b.window) (window_len g) (both_left (eqb (length b.window) (window_len g)) _ e₂);
      prefix = eqb-true (length b.prefix) (prefix_len g) (both_left (eqb (length b.prefix) (prefix_len g)) _ e₃);
      squares = eqb-true (length b.squares) (prefix_len g) (both_left (eqb (length b.squares) (prefix_len g)) _ e₄);
      scores = eqb-true (length b.scores) (lags g) (both_left (eqb (length b.scores) (lags g)) _ e₅);
    }
