-- The near envelope holds, in each bin of the frame under way, the level of exactly that bin's own samples.
use Prim.Native.Nat.{ℕ, ◌+◌, ◌*◌, ◌≤◌, ◌<◌}
use mathlib.Core.Path.{◌≡◌, refl, sym, ap, ◌∙◌, subst}
use mathlib.Core.List.{List, [], ◌∷◌, ◌++◌}
use mathlib.Core.Logic.{⊎_elim}
use mathlib.Core.Bool.{Bool, true, false, not}
use native.Mathlib.Nat.{add-mul, one-mul, zero-mul, eq-or-lt_of_le}
use native.Mathlib.Omega.{arith}
use lib.Dec.{leb, ltb, eqb}
use lib.ListN.{length, set}
use lib.Seq.{get_or-set_same, get_or-set_other}
use lib.Ieee.{Float, nan}
use borrow.Author.Tests.{leb-true, eqb-true, eqb-false, ne_eqb}
use Rattle.answers.specs.Pick.{pick, either, pick_case}
use Rattle.answers.specs.Refusals.{none}
use Rattle.answers.proofs.Refusals.{passed_both}
use Rattle.floats.specs.Functions.{zero64, magnitude}
use Rattle.folds.specs.Sums.{upto, at}
use Rattle.scan.specs.Bins.{geometry_of, near_len}
use Rattle.scan.specs.State.{World, finished, full, due, geometry_rule, far_rule, near_rule, keeps_rules, first_refusals}
use Rattle.scan.specs.Blocks.{Seen, gather, dropped, hole, held_at, summed, level_of}
use Rattle.scan.specs.Scoring.{quiet, flat}
use Rattle.scan.specs.Calls.{FarPush, NearPush, Observation, Clearing, Restart, is_uncovered, is_ahead, window_in, frame_of, consumed, far_refusal, pushed_far, near_refusal, pushed_near, score_refusal, all_lengths, counted_frame, judged, scored_frame, observed, clear_refusal, rearmed, discarded, reset_refusal, was_reset}
use Rattle.scan.specs.Steps.{Call, near, score, rearm, discard, reset, ask, far, deed, refusal_of, changes, scores, called}
use Rattle.scan.specs.Streams.{Item, own, foreign, after}
use Rattle.scan.specs.Along.{along}
use Rattle.scan.specs.declared.Geometry.{Geometry}
use Rattle.scan.specs.declared.Near.{Near}
use Rattle.scan.specs.declared.Scan.{Scan}
use Rattle.scan.specs.declared.Taking.TheVariants as taking
use Rattle.scan.proofs.Laws.{pick_both, if_refused_case, both_left, both_right}
use Rattle.scan.proofs.Accepted.{first_passed, follows_by, near_taken, scoreable}
use Rattle.scan.proofs.Contracts.{far_step, near_step, score_step, clear_step, reset_step}
use Rattle.scan.proofs.Fresh.{began}
use Rattle.scan_push.specs.Envelope.{level_of_block}
use Rattle.scan_push.specs.NearFrame.{frame_by, frame_on, HoldsFrame, HoldsNearLevels}
use Rattle.scan_push.proofs.Holds.{one_more, earlier_block, length_more}

-- ---- the rules of a state that is not refused

rules_near : (s : Scan) (lengths : Bool) → first_refusals s lengths ≡ 0 → near_rule s.geometry s.near ≡ true
unfolding keeps_rules
rules_near s lengths z = both_left (near_rule s.geometry s.near) _ (both_right (far_rule s.geometry s.far) _ (both_right (geometry_rule s) _ (first_passed s lengths z).rules))

within : (g : Geometry) (n : Near) → near_rule g n ≡ true → n.len ≤ g.frame
unfolding near_rule
within g n h = leb-true n.len g.frame (both_left (leb n.len g.frame) _ (both_right (either (not (full g n)) (eqb n.count 0)) _ (both_right (ltb n.count g.decimation) _ h)))

-- a full frame has no block under way
whole : (g : Geometry) (n : Near) → near_rule g n ≡ true → full g n ≡ true → n.count ≡ 0
unfolding near_rule pick
whole g n h f = eqb-true n.count 0 (rw f at (both_left (either (not (full g n)) (eqb n.count 0)) _ (both_right (ltb n.count g.decimation) _ h)))

-- ---- one sample that is taken

module _ (g : Geometry) (n : Near) (levels xs : List Float) (k : HoldsFrame g n levels xs) (x : Float) (index : ℕ) (room : n.len < length levels) where
  abbrev D : ℕ
  D = g.decimation

  rows : (n.len + 1) * D ≡ n.len * D + D
  rows = add-mul n.len 1 D ∙ ap (λ (z : ℕ). n.len * D + z) (one-mul D)

  gathered : let t = gather g (record { near = n; levels = levels }) x index in HoldsFrame g t.near t.levels (xs ++ (x ∷ []))
  unfolding gather upto
  gathered =
      let level = level_of g (summed n.sum x) in
      let more = length_more xs x in
      let total = one_more xs x (n.len * D) n.count n.sum k.placed k.sum in
      pick_case (λ (t : Seen). HoldsFrame g t.near t.levels (xs ++ (x ∷ []))) (eqb (n.count + 1) D) _ _
      (λ c. let e : n.count + 1 ≡ D = eqb-true (n.count + 1) D c in
      record {
        placed = omega (arith, more, k.placed, rows);
        sum = refl;
        levelled = λ j below.
            ⊎_elim
            (λ (same : j ≡ n.len).
            ap (at (set levels n.len level)) same
            ∙ get_or-set_same levels n.len level nan room
            ∙ ap (level_of g) (total ∙ ap (upto (λ i. magnitude (at (xs ++ (x ∷ [])) (n.len * D + i)))) e)
            ∙ ap (λ (z : ℕ). level_of_block g z (xs ++ (x ∷ []))) (sym same))
            (λ (less : j < n.len).
            get_or-set_other levels n.len j level nan (λ (e : j ≡ n.len). omega arith) ∙ k.levelled j less ∙ earlier_block g xs x j n.len less (omega (arith, k.placed)))
            (eq-or-lt_of_le (omega arith));
      })
      (λ c. record { placed = omega (arith, more, k.placed); sum = total; levelled = λ j below. k.levelled j below ∙ earlier_block g xs x j n.len below (omega (arith, k.placed)) })

-- ---- every call

abbrev Held : List Float → World → Type 0
Held ys v = HoldsFrame v.scan.geometry v.scan.near v.buffers.levels ys

taken_so : (filled : Bool) (xs held : List Float) (x : Float) → frame_by (pick filled taking.Full taking.Taken) xs held x ≡ held ++ (x ∷ [])
unfolding pick
taken_so true xs held x = refl
taken_so false xs held x = refl

-- no sample is taken
none_held : (g : Geometry) (n : Near) (levels : List Float) → n.len ≡ 0 → n.count ≡ 0 → n.sum ≡ zero64 → HoldsFrame g n levels []
unfolding upto
none_held g n levels l c s =
    record {
      placed = rw (l, c, zero-mul g.decimation) refl;
      levelled = λ j below. absurd (omega arith);
      sum = s ∙ ap (upto (λ i. magnitude (at [] (n.len * g.decimation + i)))) (sym c);
    }

module _ (slack : ℕ) (w : World) (xs : List Float) (k : Held xs w) where
  abbrev s : Scan
  s = w.scan

  abbrev Cleared : Clearing → Type 0
  Cleared p = Held (pick (eqb (refusal_of (changes p.changed.answer)) none) [] xs) (clear_step w.buffers p).world

  near_room : (x : Float) (index : ℕ) → near_refusal s w.buffers.levels x index ≡ 0 → finished s.verdict ≡ false → dropped s.geometry (held_at s.near index) index ≡ false
      → (held_at s.near index).len < length w.buffers.levels
  unfolding near_refusal
  near_room x index z t d =
      let e = near_taken w x index z t d in
      let lengths = eqb (length w.buffers.levels) (near_len (due s)) in
      let f = (passed_both (first_refusals s lengths) _ z).0 in
      let frame : s.geometry.frame ≡ length w.buffers.levels = ap near_len (follows_by s (first_passed s lengths f).rules) ∙ sym e.length in
      let room : s.near.len < length w.buffers.levels = omega (arith, within s.geometry s.near (rules_near s lengths f), eqb-false s.near.len s.geometry.frame e.room, frame) in
      pick_case (λ (m : Near). m.len < length w.buffers.levels) (hole s.near index) _ _ (λ h. omega (arith, room)) (λ h. room)

  -- what a hole leaves
  abbrev left : ℕ → List Float
  left index = pick (hole s.near index) [] xs

  left_held : (index : ℕ) → HoldsFrame s.geometry (held_at s.near index) w.buffers.levels (left index)
  left_held index = pick_both (λ (m : Near) (ys : List Float). HoldsFrame s.geometry m w.buffers.levels ys) (hole s.near index) _ _ _ _ (λ h. none_held _ _ _ refl refl refl) (λ h. k)

  near_held : (x : Float) (index : ℕ) → Held (frame_on slack xs w (deed (near x index))) (called slack w (deed (near x index))).world
  unfolding called pushed_near pick
  near_held x index =
      if_refused_case P (near_refusal s w.buffers.levels x index) _ _ (λ r. k)
      (λ z. pick_case P (finished s.verdict) _ _ (λ t. k)
      (λ t. let m = held_at s.near index in
      pick_case P (dropped s.geometry m index) _ _ (λ d. left_held index)
      (λ d. let u = gather s.geometry (record { near = m; levels = w.buffers.levels }) x index in
      rw (taken_so (full s.geometry u.near) xs (left index) x) (gathered s.geometry m w.buffers.levels (left index) (left_held index) x index (near_room x index z t d)))))
    where
      P : NearPush → Type 0
      P p = Held (frame_by p.took.answer xs (left index) x) (near_step w.buffers p).world

  -- a scored frame was full, so that no block was under way
  emptied : (levels : List Float) → score_refusal slack w ≡ 0 → HoldsFrame s.geometry (consumed s.near) levels []
  unfolding score_refusal upto
  emptied levels z =
      let lengths = all_lengths slack (due s) w.buffers in
      let f = (passed_both (first_refusals s lengths) _ z).0 in
      let c : s.near.count ≡ 0 = whole s.geometry s.near (rules_near s lengths f) (scoreable slack w z).full in
      none_held s.geometry (consumed s.near) levels refl c (k.sum ∙ ap (upto (λ i. magnitude (at xs (s.near.len * s.geometry.decimation + i)))) c)

  score_held : Held (frame_on slack xs w (deed score)) (called slack w (deed score)).world
  unfolding called observed scored_frame judged counted_frame pick
  score_held =
      if_refused_case P (score_refusal slack w) _ _ (λ r. rw (ne_eqb (score_refusal slack w) none r) k)
      (λ z. pick_case P (is_uncovered slack w) _ _ (λ t. emptied _ z)
      (λ t. pick_case P (is_ahead w) _ _ (λ t. emptied _ z)
      (λ t. pick_case P (quiet (window_in slack w)) _ _ (λ t. emptied _ z)
      (λ t. pick_case P (flat (frame_of w)) _ _ (λ t. emptied _ z) (λ t. emptied _ z)))))
    where
      P : Observation → Type 0
      P o = Held (pick (eqb (refusal_of (scores o.scored.answer)) none) [] xs) (score_step o).world

  call_held : (c : Call) → Held (frame_on slack xs w c) (called slack w c).world
  unfolding called pushed_far rearmed discarded was_reset pick
  call_held (far ys) = if_refused_case (λ (p : FarPush). Held xs (far_step w.buffers p).world) (far_refusal slack s w.buffers.envelope ys) _ _ (λ r. k) (λ z. k)
  call_held (deed (near x index)) = near_held x index
  call_held (deed score) = score_held
  call_held (deed rearm) = if_refused_case Cleared (clear_refusal s w.buffers.lag_sums) _ _ (λ r. rw (ne_eqb (clear_refusal s w.buffers.lag_sums) none r) k) (λ z. none_held _ _ _ refl refl refl)
  call_held (deed discard) = if_refused_case Cleared (clear_refusal s w.buffers.lag_sums) _ _ (λ r. rw (ne_eqb (clear_refusal s w.buffers.lag_sums) none r) k) (λ z. none_held _ _ _ refl refl refl)
  call_held (deed reset) =
      if_refused_case (λ (p : Restart). Held (pick (eqb (refusal_of (changes p.changed.answer)) none) [] xs) (reset_step w.buffers p).world) (reset_refusal slack s w.buffers.envelope w.buffers.lag_sums) _ _
      (λ r. rw (ne_eqb (reset_refusal slack s w.buffers.envelope w.buffers.lag_sums) none r) k) (λ z. none_held _ _ _ refl refl refl)
  call_held (deed (ask r)) = k

-- ---- after any calls

held_along : (slack : ℕ) (items : List Item) (w : World) (xs : List Float) → Held xs w → Held (along (frame_on slack) xs slack w items) (after slack w items)
unfolding along after
held_along slack [] w xs k = k
held_along slack (own c ∷ items) w xs k = held_along slack items (called slack w c).world (frame_on slack xs w c) (call_held slack w xs k c)
held_along slack (foreign v c ∷ items) w xs k = held_along slack items w xs k

pub holds_near_levels : HoldsNearLevels
holds_near_levels slack rate ceiling w items b =
    held_along slack items w [] (subst (Held []) (sym (began slack rate ceiling w b).is) (none_held (geometry_of rate ceiling) _ _ refl refl refl))
