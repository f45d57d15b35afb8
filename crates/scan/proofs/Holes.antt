-- Request d: samples of a frame stand where their indices say, a hole changes the near side alone, and without holes the rule is the one that compares no indices.
use Prim.Native.Nat.{ℕ, zero, suc, ◌+◌, ◌-◌, ◌*◌, ◌%◌, ◌≤◌, ◌<◌, zero-le}
use mathlib.Core.Path.{◌≡◌, refl, sym, ap, ap₂, ◌∙◌, subst}
use mathlib.Core.Logic.{◌⊎◌, inl, inr}
use mathlib.Core.List.{List, [], ◌∷◌}
use mathlib.Core.Bool.{Bool, true, false, not, true≢false}
use native.Mathlib.Nat.{div-add-mod', eq-or-lt_of_le, add-mul, one-mul}
use native.Mathlib.Numerals.{add-one}
use native.Mathlib.Omega.{arith}
use lib.Dec.{leb, ltb, eqb}
use lib.ListN.{length, take, drop, set}
use lib.Seq.{get_or-set_same, get_or-set_other}
use lib.Ieee.{Float, nan}
use lib.Ieee.Scale.{finite}
use borrow.Author.Tests.{leb-true, eqb-true, eqb-false, eq-eqb, ne_eqb, lt-ltb, le-leb, not-true}
use Rattle.answers.specs.Pick.{pick, either, pick_true, pick_false, pick_all, pick_case}
use Rattle.answers.specs.Refusals.{require, before, none, not_finite, too_large, frame_waits}
use Rattle.answers.specs.Numbers.{limit}
use Rattle.answers.proofs.Refusals.{passed, passed_both}
use Rattle.floats.specs.Functions.{zero64}
use Rattle.floats.proofs.Levels.{zero_at_most, at_most_finite}
use Rattle.folds.specs.Sums.{at}
use Rattle.scan.specs.State.{World, emptied, finished, full, idle, taken, due, geometry_rule, far_rule, near_rule, verdict_rule, keeps_rules, first_refusals}
use Rattle.scan.specs.Blocks.{Seen, gather, dropped, hole, held_at, first_bin, summed, level_of}
use Rattle.scan.specs.Scoring.{quiet, flat}
use Rattle.scan.specs.Calls.{Observation, FarPush, NearPush, Clearing, Restart, frame_of, window_in, is_uncovered, is_ahead, consumed, with_near, with_near_verdict, untaken, taken_by, far_refusal, pushed_far, near_refusal, pushed_near, score_refusal, counted_frame, judged, scored_frame, observed, clearing, clear_refusal, rearmed, discarded, reset_refusal, was_reset}
use Rattle.scan.specs.Steps.{near, score, rearm, discard, reset, ask, Call, far, deed, Response, called}
use Rattle.scan.specs.Streams.{Item, own, foreign, after, answers}
use Rattle.scan.specs.Holes.{Sample, with_taken, noted_call, samples_taken, indices_of, up_from, sum_of_latest, FrameInPlace, InPlace, BinInPlace, BinsInPlace, NearOnly, HoleKeeps, HoleBegins, BeginsFrame, refusal_without, pushed_without, called_without, after_without, answers_without, NoHoleCall, WithoutHoles}
use Rattle.scan.specs.declared.Geometry.{Geometry}
use Rattle.scan.specs.declared.Near.{Near}
use Rattle.scan.specs.declared.Verdict.{Verdict}
use Rattle.scan.specs.declared.Scan.{Scan}
use Rattle.scan.specs.declared.Taking.{Taking}
use Rattle.scan.specs.declared.Taking.TheVariants as taking
use Rattle.scan.proofs.Laws.{pick_both, if_refused_case, if_refused_none, if_refused_both, either_or, either_right, both_and, both_left, both_right}
use Rattle.scan.proofs.Settings.{Allowed, allowed, some, wide}
use Rattle.scan.proofs.Held.{Placed, emptied_idle, held_next, held_under_way, block_placed, stands}
use Rattle.scan.proofs.Sound.{seen_in}
use Rattle.scan.proofs.Accepted.{first_passed, follows_by, NearTaken, near_taken, scoreable}
use Rattle.scan.proofs.Contracts.{far_step, near_step, score_step, clear_step, reset_step}
use Rattle.scan.proofs.Numbered.{near_number}
use Rattle.scan.proofs.Fresh.{began}

-- ---- what rule 3 says of the near side

pub record NearRuled (g : Geometry) (n : Near) : Type 0 where
  pub whole : n.len ≡ g.frame → n.count ≡ 0
  pub len : n.len ≤ g.frame
  pub placed : Placed g n

near_ruled : (g : Geometry) (n : Near) → near_rule g n ≡ true → NearRuled g n
unfolding near_rule
near_ruled g n r =
    let r₁ = both_right (ltb n.count g.decimation) _ r in
    let r₂ = both_right (either (not (full g n)) (eqb n.count 0)) _ r₁ in
    let r₃ = both_right (leb n.len g.frame) _ r₂ in
    let r₄ = both_right (finite n.sum) _ r₃ in
    let r₅ = both_right (ltb (n.first * g.decimation) limit) _ r₄ in
    record {
      whole = λ e. eqb-true n.count 0 (sym (pick_false (not (full g n)) true _ (ap not (eq-eqb n.len g.frame e))) ∙ both_left (either (not (full g n)) (eqb n.count 0)) _ r₁);
      len = leb-true n.len g.frame (both_left (leb n.len g.frame) _ r₂);
      placed = λ i. eqb-true (n.last + 1) (n.first * g.decimation + taken g n) (sym (pick_false (idle n) true _ i) ∙ r₅);
    }

ruled : (s : Scan) → keeps_rules s ≡ true → NearRuled s.geometry s.near
unfolding keeps_rules
ruled s r = near_ruled s.geometry s.near (both_left (near_rule s.geometry s.near) _ (both_right (far_rule s.geometry s.far) _ (both_right (geometry_rule s) _ r)))

near_rules : (w : World) (x : Float) (index : ℕ) → near_refusal w.scan w.buffers.levels x index ≡ 0 → NearRuled w.scan.geometry w.scan.near
unfolding near_refusal
near_rules w x index z = ruled w.scan (first_passed w.scan _ (passed_both (first_refusals w.scan _) _ z).0).rules

score_rules : (slack : ℕ) (w : World) → score_refusal slack w ≡ 0 → NearRuled w.scan.geometry w.scan.near
unfolding score_refusal
score_rules slack w z = ruled w.scan (first_passed w.scan _ (passed_both (first_refusals w.scan _) _ z).0).rules

-- ---- samples stand where their indices say

-- no frame is under way
none_in_place : (g : Geometry) (t : Seen) (past : List Sample) → t.near.len ≡ 0 → t.near.count ≡ 0 → t.near.sum ≡ sum_of_latest t.near.count past → FrameInPlace g t past
none_in_place g t past l c s =
    let e : taken g t.near ≡ 0 = omega (arith, ap (λ (k : ℕ). k * g.decimation) l) in
    record { indices = rw e; sum = s; bins = λ i h. absurd (omega arith) }

cleared_in_place : (g : Geometry) (first last : ℕ) (levels : List Float) (past : List Sample) → FrameInPlace g (record { near = record { len = 0; sum = zero64; count = 0; first = first; last = last }; levels = levels }) past
cleared_in_place g first last levels past = none_in_place g _ past refl refl refl

held_in_place : (g : Geometry) (t : Seen) (index : ℕ) (past : List Sample) → FrameInPlace g t past → FrameInPlace g (record { near = held_at t.near index; levels = t.levels }) past
held_in_place g t index past k = pick_case (λ (m : Near). FrameInPlace g (record { near = m; levels = t.levels }) past) (hole t.near index) _ _ (λ h. cleared_in_place g _ _ _ past) (λ h. k)

-- one sample more
gather_in_place : (g : Geometry) (t : Seen) (x : Float) (index : ℕ) (past : List Sample) → Placed g t.near → (idle t.near ≡ false → index ≡ t.near.last + 1) → dropped g t.near index ≡ false
    → t.near.len < length t.levels → FrameInPlace g t past → FrameInPlace g (gather g t x index) (record { value = x; index = index } ∷ past)
unfolding gather
gather_in_place g t x index past p next d l k =
    pick_case (λ (u : Seen). FrameInPlace g u (new ∷ past)) (eqb (n.count + 1) g.decimation) _ _
    (λ c. let e = eqb-true (n.count + 1) g.decimation c in record {
      indices = subst (λ (j : ℕ). take j (indices_of (new ∷ past)) ≡ up_from (first_bin g t.near index * g.decimation) j) (sym (block_placed g n e)) more;
      sum = refl;
      bins = λ i h. block e i (eq-or-lt_of_le (omega arith));
    })
    (λ c. record {
      indices = subst (λ (j : ℕ). take j (indices_of (new ∷ past)) ≡ up_from (first_bin g t.near index * g.decimation) j) (let e : taken g t.near + 1 ≡ t.near.len * g.decimation + (t.near.count + 1) = omega arith in e) more;
      sum = total;
      bins = λ i h. let e : t.near.count + 1 + (t.near.len - 1 - i) * g.decimation ≡ suc (t.near.count + (t.near.len - 1 - i) * g.decimation) = omega arith in k.bins i h ∙ ap (λ (j : ℕ). level_at j) (sym e);
    })
  where
    n : Near
    n = t.near

    new : Sample
    new = record { value = x; index = index }

    -- the samples before it stand where they stood, or there are none
    before : take (taken g t.near) (indices_of past) ≡ up_from (first_bin g t.near index * g.decimation) (taken g t.near)
    before =
        pick_case (λ (z : ℕ). take (taken g t.near) (indices_of past) ≡ up_from (z * g.decimation) (taken g t.near)) (idle t.near) _ _
        (λ i. let e : taken g t.near ≡ 0 = omega (arith, eqb-true t.near.count 0 (both_left (eqb t.near.count 0) _ i), ap (λ (k : ℕ). k * g.decimation) (eqb-true t.near.len 0 (both_right (eqb t.near.count 0) _ i))) in rw e)
        (λ i. k.indices)

    more : take (taken g t.near + 1) (index ∷ indices_of past) ≡ up_from (first_bin g t.near index * g.decimation) (taken g t.near + 1)
    more =
        let e : index ≡ first_bin g t.near index * g.decimation + taken g t.near = omega (arith, stands g t.near index p next d) in
        rw add-one (ap₂ {A = ℕ} {B = List ℕ} (λ (a : ℕ) (r : List ℕ). a ∷ r) e before)

    total : summed t.near.sum x ≡ sum_of_latest (t.near.count + 1) (record { value = x; index = index } ∷ past)
    total = rw add-one (ap (λ (s : Float). summed s x) k.sum)

    level_at : ℕ → Float
    level_at j = level_of g (sum_of_latest g.decimation (drop j (record { value = x; index = index } ∷ past)))

    block : t.near.count + 1 ≡ g.decimation → (i : ℕ) → (i ≡ t.near.len) ⊎ (i < t.near.len)
        → at (set t.levels t.near.len (level_of g (summed t.near.sum x))) i ≡ level_at (0 + (t.near.len + 1 - 1 - i) * g.decimation)
    block e i (inl h) =
        let z : t.near.len + 1 - 1 - i ≡ 0 = omega arith in
        let y : 0 + (t.near.len + 1 - 1 - i) * g.decimation ≡ 0 = omega (arith, ap (λ (j : ℕ). j * g.decimation) z) in
        rw (y, h) (get_or-set_same t.levels t.near.len _ nan l ∙ ap (level_of g) (total ∙ ap (λ (j : ℕ). sum_of_latest j (record { value = x; index = index } ∷ past)) e))
    block e i (inr h) =
        let z : t.near.len + 1 - 1 - i ≡ t.near.len - 1 - i + 1 = omega arith in
        let y : 0 + (t.near.len + 1 - 1 - i) * g.decimation ≡ suc (t.near.count + (t.near.len - 1 - i) * g.decimation) = omega (arith, ap (λ (j : ℕ). j * g.decimation) z, add-mul (t.near.len - 1 - i) 1 g.decimation, one-mul g.decimation) in
        get_or-set_other t.levels t.near.len i _ nan (omega arith) ∙ k.bins i h ∙ ap (λ (j : ℕ). level_at j) (sym y)

-- ---- every call leaves them so

module _ (slack : ℕ) (w : World) (past : List Sample) (k : FrameInPlace w.scan.geometry (seen_in w) past) where
  abbrev g : Geometry
  g = w.scan.geometry

  abbrev There : World → Type 0
  There v = FrameInPlace v.scan.geometry (seen_in v) past

  far_in_place : (xs : List Float) → There (far_step w.buffers (pushed_far slack w.scan w.buffers.envelope xs)).world
  unfolding pushed_far
  far_in_place xs = if_refused_case (λ (p : FarPush). There (far_step w.buffers p).world) (far_refusal slack w.scan w.buffers.envelope xs) _ _ (λ r. k) (λ z. k)

  -- a sample that is taken finds room among the levels
  took : (x : Float) (index : ℕ) → dropped g (held_at w.scan.near index) index ≡ false → NearRuled g w.scan.near → NearTaken w x index → w.scan.geometry ≡ due w.scan → 0 < g.frame
      → FrameInPlace g (gather g (record { near = held_at w.scan.near index; levels = w.buffers.levels }) x index) (record { value = x; index = index } ∷ past)
  took x index d r c e o =
      gather_in_place g (record { near = held_at w.scan.near index; levels = w.buffers.levels }) x index past (held_under_way (λ (m : Near). m.last + 1 ≡ m.first * g.decimation + taken g m) w.scan.near index r.placed)
      (held_next w.scan.near index) d room (held_in_place g (seen_in w) index past k)
    where
      length_is : length w.buffers.levels ≡ g.frame
      length_is = c.length ∙ ap (λ (h : Geometry). h.frame) (sym e)

      room : (held_at w.scan.near index).len < length w.buffers.levels
      room = pick_case (λ (m : Near). m.len < length w.buffers.levels) (hole w.scan.near index) _ _ (λ h. omega (arith, length_is, o)) (λ h. omega (arith, length_is, r.len, eqb-false w.scan.near.len g.frame c.room))

  near_in_place : (x : Float) (index : ℕ)
      → let p = pushed_near w.scan w.buffers.levels x index in
      FrameInPlace p.took.scan.geometry (record { near = p.took.scan.near; levels = p.levels }) (with_taken p.took.answer (record { value = x; index = index }) past)
  unfolding pushed_near near_refusal
  near_in_place x index =
      if_refused_case P (near_refusal w.scan w.buffers.levels x index) _ _ (λ r. k)
      (λ z. pick_case P (finished w.scan.verdict) _ _ (λ f. k)
      (λ f. let m = held_at w.scan.near index in
      pick_case P (dropped g m index) _ _ (λ d. held_in_place g (seen_in w) index past k)
      (λ d. let c = near_taken w x index z f d in
      let r = near_rules w x index z in
      let q = first_passed w.scan _ (passed_both (first_refusals w.scan _) _ z).0 in
      let e = follows_by w.scan q.rules in
      let t = took x index d r c e (subst (λ (h : Geometry). 0 < h.frame) (sym e) (wide (due w.scan) (allowed _ _ q.inside))) in
      pick_all (λ (a : Taking). FrameInPlace g (gather g (record { near = m; levels = w.buffers.levels }) x index) (with_taken a (record { value = x; index = index }) past)) _ _ _ t t)))
    where
      P : NearPush → Type 0
      P p = FrameInPlace p.took.scan.geometry (record { near = p.took.scan.near; levels = p.levels }) (with_taken p.took.answer (record { value = x; index = index }) past)

  -- the frame is consumed
  scored_in_place : score_refusal slack w ≡ 0 → There (score_step (scored_frame slack w)).world
  unfolding scored_frame judged counted_frame
  scored_in_place z =
      pick_case P (is_uncovered slack w) _ _ (λ t. gone)
      (λ t. pick_case P (is_ahead w) _ _ (λ u. gone) (λ u. pick_case P (quiet (window_in slack w)) _ _ (λ q. gone) (λ q. pick_case P (flat (frame_of w)) _ _ (λ e. gone) (λ e. gone))))
    where
      P : Observation → Type 0
      P p = There (score_step p).world

      gone : FrameInPlace w.scan.geometry (record { near = consumed w.scan.near; levels = w.buffers.levels }) past
      gone = none_in_place g _ past refl ((score_rules slack w z).whole (eqb-true w.scan.near.len g.frame (scoreable slack w z).full)) k.sum

  score_in_place : There (score_step (observed slack w)).world
  unfolding observed
  score_in_place = if_refused_case (λ (p : Observation). There (score_step p).world) (score_refusal slack w) _ _ (λ r. k) (λ z. scored_in_place z)

  clear_in_place : (first last : ℕ) (v : Verdict) → There (clear_step w.buffers (clearing w.scan w.buffers.lag_sums (with_near_verdict w.scan (record { len = 0; sum = zero64; count = 0; first = first; last = last }) v))).world
  clear_in_place first last v = if_refused_case (λ (p : Clearing). There (clear_step w.buffers p).world) (clear_refusal w.scan w.buffers.lag_sums) _ _ (λ r. k) (λ z. cleared_in_place g first last _ past)

  reset_in_place : There (reset_step w.buffers (was_reset slack w.scan w.buffers.envelope w.buffers.lag_sums)).world
  unfolding was_reset
  reset_in_place = if_refused_case (λ (p : Restart). There (reset_step w.buffers p).world) (reset_refusal slack w.scan w.buffers.envelope w.buffers.lag_sums) _ _ (λ r. k) (λ z. cleared_in_place g 0 0 _ past)

  called_in_place : (c : Call) → FrameInPlace (called slack w c).world.scan.geometry (seen_in (called slack w c).world) (noted_call w c past)
  called_in_place (far xs) = (unfold called in far_in_place xs)
  called_in_place (deed (near x index)) = (unfold called in near_in_place x index)
  called_in_place (deed score) = (unfold called in score_in_place)
  called_in_place (deed rearm) = (unfold called rearmed in clear_in_place 0 0 _)
  called_in_place (deed discard) = (unfold called discarded in clear_in_place w.scan.near.first w.scan.near.last _)
  called_in_place (deed reset) = (unfold called in reset_in_place)
  called_in_place (deed (ask r)) = (unfold called in k)

calls_in_place : (slack : ℕ) (items : List Item) (w : World) (past : List Sample) → FrameInPlace w.scan.geometry (seen_in w) past
    → FrameInPlace (after slack w items).scan.geometry (seen_in (after slack w items)) (samples_taken slack w items past)
unfolding after samples_taken
calls_in_place slack [] w past k = k
calls_in_place slack (own c ∷ items) w past k = calls_in_place slack items (called slack w c).world (noted_call w c past) (called_in_place slack w past k c)
calls_in_place slack (foreign v c ∷ items) w past k = calls_in_place slack items w past k

pub in_place : InPlace
in_place slack rate ceiling w items b =
    calls_in_place slack items w []
    (subst (λ (v : World). FrameInPlace v.scan.geometry (seen_in v) []) (sym (began slack rate ceiling w b).is) (cleared_in_place _ 0 0 _ []))

-- ---- the samples of one bin

indices_drop : (j : ℕ) (past : List Sample) → indices_of (drop j past) ≡ drop j (indices_of past)
indices_drop zero past = refl
indices_drop (suc j) [] = refl
indices_drop (suc j) (x ∷ past) = indices_drop j past

take_inside : (d j n : ℕ) (l : List ℕ) → j + d ≤ n → take d (drop j l) ≡ take d (drop j (take n l))
take_inside zero j n l h = refl
take_inside (suc d) j zero l h = absurd (omega arith)
take_inside (suc d) zero (suc n) [] h = refl
take_inside (suc d) zero (suc n) (x ∷ l) h = ap (λ (r : List ℕ). x ∷ r) (take_inside d zero n l (omega arith))
take_inside (suc d) (suc j) (suc n) [] h = refl
take_inside (suc d) (suc j) (suc n) (x ∷ l) h = take_inside (suc d) j n l (omega arith)

drop_up : (a n j m : ℕ) → n ≡ j + m → drop j (up_from a n) ≡ up_from a m
drop_up a n zero m e = let z : n ≡ m = omega arith in ap (up_from a) z
drop_up a zero (suc j) m e = absurd (omega arith)
drop_up a (suc n) (suc j) m e = drop_up a n j m (omega arith)

take_up : (a d n m : ℕ) → n ≡ m + d → take d (up_from a n) ≡ up_from (a + m) d
take_up a zero n m e = refl
take_up a (suc d) zero m e = absurd (omega arith)
take_up a (suc d) (suc n) m e = let z : a + n ≡ a + m + d = omega arith in ap₂ {A = ℕ} {B = List ℕ} (λ (x : ℕ) (r : List ℕ). x ∷ r) z (take_up a d n m (omega arith))

bin_in_place : (g : Geometry) (t : Seen) (past : List Sample) → FrameInPlace g t past → (i : ℕ) → i < t.near.len → BinInPlace g t past i
bin_in_place g t past k i l =
    let D = g.decimation in
    let n = t.near in
    let later = n.len - 1 - i in
    let j = n.count + later * D in
    let z : n.len ≡ later + (i + 1) = omega arith in
    let m : taken g n ≡ j + (i * D + D) = omega (arith, ap (λ (q : ℕ). q * D) z, add-mul later (i + 1) D, add-mul i 1 D, one-mul D) in
    let a : n.first * D + i * D ≡ (n.first + i) * D = sym (add-mul n.first i D) in
    record {
      from = j;
      level = k.bins i l;
      indices =
          ap (take D) (indices_drop j past) ∙ take_inside D j (taken g n) (indices_of past) (omega arith) ∙ ap (λ (r : List ℕ). take D (drop j r)) k.indices
          ∙ ap (take D) (drop_up (n.first * D) (taken g n) j (i * D + D) m) ∙ take_up (n.first * D) D (i * D + D) (i * D) refl ∙ ap (λ (q : ℕ). up_from q D) a;
    }

pub bins_in_place : BinsInPlace
bins_in_place slack rate ceiling w items b = bin_in_place _ _ _ (in_place slack rate ceiling w items b)

-- ---- a hole changes the near side alone

pub hole_keeps : HoleKeeps
unfolding called pushed_near
hole_keeps slack w x index =
    if_refused_case P (near_refusal w.scan w.buffers.levels x index) _ _ (λ r. same)
    (λ z. pick_case P (finished w.scan.verdict) _ _ (λ f. same) (λ f. pick_case P (dropped w.scan.geometry (held_at w.scan.near index) index) _ _ (λ d. record { geometry = refl; far = refl; verdict = refl; buffers = refl }) (λ d. record { geometry = refl; far = refl; verdict = refl; buffers = refl })))
  where
    P : NearPush → Type 0
    P p = NearOnly w (near_step w.buffers p).world

    same : NearOnly w w
    same = record { geometry = refl; far = refl; verdict = refl; buffers = refl }

-- ---- after a hole a sample is treated as a possible first one

hole_under_way : (n : Near) (index : ℕ) → hole n index ≡ true → idle n ≡ false
hole_under_way n index h = not-true (idle n) (both_left (not (idle n)) _ h)

-- whatever index comes, a near side that is not under way is held as it is
idle_held : (n : Near) (index : ℕ) → idle n ≡ true → held_at n index ≡ n
idle_held n index i = pick_false (hole n index) _ _ (pick_false (not (idle n)) _ false (ap not i))

-- the rules hold without the frame
emptied_rule : (g : Geometry) (n : Near) → Allowed g → near_rule g n ≡ true → near_rule g (emptied n) ≡ true
unfolding near_rule
emptied_rule g n a r =
    let r₃ = both_right (leb n.len g.frame) _ (both_right (either (not (full g n)) (eqb n.count 0)) _ (both_right (ltb n.count g.decimation) _ r)) in
    both_and _ _ (lt-ltb 0 g.decimation (some g a))
    (both_and _ _ (either_or (not (full g (emptied n))) (eqb 0 0) (λ e. refl))
    (both_and _ _ (le-leb 0 g.frame zero-le)
    (both_and _ _ (at_most_finite 0 zero64 zero_at_most)
    (both_and _ _ (both_left (ltb (n.first * g.decimation) limit) _ (both_right (finite n.sum) _ r₃)) (either_or (idle (emptied n)) _ (λ i. absurd (true≢false (sym (emptied_idle n) ∙ i))))))))

emptied_rules : (s : Scan) → Allowed s.geometry → keeps_rules s ≡ true → keeps_rules (with_near s (emptied s.near)) ≡ true
unfolding keeps_rules verdict_rule
emptied_rules s a r =
    let r₁ = both_right (geometry_rule s) _ r in
    let r₂ = both_right (far_rule s.geometry s.far) _ r₁ in
    let r₃ = both_right (near_rule s.geometry s.near) _ r₂ in
    both_and _ _ (both_left (geometry_rule s) _ r)
    (both_and _ _ (both_left (far_rule s.geometry s.far) _ r₁)
    (both_and _ _ (emptied_rule s.geometry s.near a (both_left (near_rule s.geometry s.near) _ r₂))
    (both_and _ _ (both_left (ltb s.verdict.banked 4) _ r₃) (either_or (not (finished s.verdict)) _ (λ e. emptied_idle s.near)))))

either_first : (a b : Bool) → either a b ≡ true → b ≡ false → a ≡ true
unfolding pick
either_first true b h e = refl
either_first false b h e = absurd (true≢false (sym h ∙ e))

-- a finished scan has no frame under way
unfinished : (s : Scan) → keeps_rules s ≡ true → idle s.near ≡ false → finished s.verdict ≡ false
unfolding keeps_rules verdict_rule
unfinished s r i =
    let v = both_right (ltb s.verdict.banked 4) _ (both_right (near_rule s.geometry s.near) _ (both_right (far_rule s.geometry s.far) _ (both_right (geometry_rule s) _ r))) in
    not-true (finished s.verdict) (either_first (not (finished s.verdict)) (idle s.near) v i)

-- each line of the list of refusals is passed
none_refused : (n : ℕ) (done room small fine : Bool) → n ≡ 0 → done ≡ false → room ≡ true → small ≡ true → fine ≡ true
    → before n (pick done none (require room frame_waits (require small too_large (require fine not_finite none)))) ≡ 0
unfolding pick
none_refused n done room small fine a b c d e = rw (a, b, c, d, e)

module _ (slack : ℕ) (w : World) (x : Float) (index : ℕ) (h : hole w.scan.near index ≡ true) where
  abbrev u : Scan
  u = with_near w.scan (emptied w.scan.near)

  held_same : held_at (emptied w.scan.near) index ≡ held_at w.scan.near index
  held_same = idle_held (emptied w.scan.near) index (emptied_idle w.scan.near) ∙ sym (pick_true (hole w.scan.near index) _ _ h)

  abbrev Both : Type 0
  Both = (finished w.scan.verdict ≡ false) × (near_refusal u w.buffers.levels x index ≡ 0)

  not_refused : near_refusal w.scan w.buffers.levels x index ≡ 0 → Both
  unfolding near_refusal first_refusals
  not_refused z =
      let g = w.scan.geometry in
      let a = passed_both (first_refusals w.scan _) _ z in
      let q = first_passed w.scan _ a.0 in
      let e = follows_by w.scan q.rules in
      let ok : Allowed g = subst Allowed (sym e) (allowed _ _ q.inside) in
      let f = unfinished w.scan q.rules (hole_under_way w.scan.near index h) in
      let b = passed (not (full g w.scan.near)) 5 _ (sym (pick_false (finished w.scan.verdict) _ _ f) ∙ a.1) in
      let c = passed (ltb index limit) 4 _ b.1 in
      let d = (passed (either (dropped g (held_at w.scan.near index) index) (finite x)) 3 none c.1).0 in (
        f,
        none_refused _ (finished w.scan.verdict) (not (full g (emptied w.scan.near))) (ltb index limit) (either (dropped g (held_at (emptied w.scan.near) index) index) (finite x))
            (pick_true _ _ _ q.inside ∙ pick_true _ _ _ q.lengths ∙ pick_true _ _ _ (emptied_rules w.scan ok q.rules)) f (ap not (ne_eqb 0 g.frame (omega (arith, wide g ok)))) c.0
            (ap (λ (m : Near). either (dropped g m index) (finite x)) held_same ∙ d),
      )

  begins_anew : near_refusal w.scan w.buffers.levels x index ≡ 0 → pushed_near w.scan w.buffers.levels x index ≡ pushed_near u w.buffers.levels x index
  unfolding pushed_near
  begins_anew z =
      let b = not_refused z in
      if_refused_none _ _ _ z ∙ pick_false (finished w.scan.verdict) _ _ b.0
      ∙ ap (λ (m : Near). pick (dropped w.scan.geometry m index) (untaken (with_near w.scan m) w.buffers.levels taking.Dropped) (taken_by w.scan (gather w.scan.geometry (record { near = m; levels = w.buffers.levels }) x index))) (sym held_same)
      ∙ sym (if_refused_none _ _ _ b.1 ∙ pick_false (finished w.scan.verdict) _ _ b.0)

pub hole_begins : HoleBegins
unfolding called
hole_begins slack w x index h a = ap (near_step w.buffers) (begins_anew slack w x index h (sym (near_number slack w x index).is ∙ a))

-- ---- a sample that begins a frame

begun_held : (n : Near) (index : ℕ) → either (idle n) (hole n index) ≡ true → idle (held_at n index) ≡ true
begun_held n index e = pick_case (λ (m : Near). idle m ≡ true) (hole n index) _ _ (λ h. emptied_idle n) (λ h. either_first (idle n) (hole n index) e h)

pub begins_frame : BeginsFrame
unfolding called pushed_near gather
begins_frame slack w x index a b =
    let g = w.scan.geometry in
    let m = held_at w.scan.near index in
    let z : near_refusal w.scan w.buffers.levels x index ≡ 0 = sym (near_number slack w x index).is ∙ a in
    let f = not-true (finished w.scan.verdict) (both_left (not (finished w.scan.verdict)) _ b) in
    let b₁ = both_right (not (finished w.scan.verdict)) _ b in
    let grid = both_right (either (idle w.scan.near) (hole w.scan.near index)) _ b₁ in
    let i = begun_held w.scan.near index (both_left (either (idle w.scan.near) (hole w.scan.near index)) _ b₁) in
    let d : dropped g m index ≡ false = pick_true (idle m) _ false i ∙ ap not grid in
    let e : taken g m ≡ 0 = omega (arith, eqb-true m.count 0 (both_left (eqb m.count 0) _ i), ap (λ (k : ℕ). k * g.decimation) (eqb-true m.len 0 (both_right (eqb m.count 0) _ i))) in
    let first : first_bin g m index * g.decimation ≡ index = ap (λ (k : ℕ). k * g.decimation) (pick_true (idle m) _ _ i) ∙ omega (arith, div-add-mod' index g.decimation, eqb-true (index % g.decimation) 0 grid) in
    subst P (sym (if_refused_none _ _ _ z ∙ pick_false (finished w.scan.verdict) _ _ f ∙ pick_false (dropped g m index) _ _ d))
    (pick_case (λ (t : Seen). (taken g t.near ≡ 1) × (t.near.first * g.decimation ≡ index)) (eqb (m.count + 1) g.decimation) _ _
    (λ c. (block_placed g m (eqb-true (m.count + 1) g.decimation c) ∙ ap (λ (k : ℕ). k + 1) e, first)) (λ c. (omega arith, first)))
  where
    P : NearPush → Type 0
    P p = (taken p.took.scan.geometry p.took.scan.near ≡ 1) × (p.took.scan.near.first * p.took.scan.geometry.decimation ≡ index)

-- ---- without holes

bool_case : {A : Type 0} (t : Bool) → (t ≡ true → A) → (t ≡ false → A) → A
bool_case true f g = f refl
bool_case false f g = g refl

module _ (w : World) (x : Float) (index : ℕ) where
  abbrev HoleFree : ℕ → Type 0
  HoleFree n = n ≡ 0 → hole w.scan.near index ≡ false

  abbrev n : Near
  n = w.scan.near

  refusal_same : HoleFree (near_refusal w.scan w.buffers.levels x index) → near_refusal w.scan w.buffers.levels x index ≡ refusal_without w.scan w.buffers.levels x index
  unfolding near_refusal refusal_without
  refusal_same =
      pick_both P _ _ _ _ _
      (λ a. pick_both P (finished w.scan.verdict) _ _ _ _ (λ f k. refl)
      (λ f. pick_both P (not (full w.scan.geometry n)) _ _ _ _ (λ r. pick_both P (ltb index limit) _ _ _ _ last (λ l k. refl)) (λ r k. refl))) (λ a k. refl)
    where
      P : ℕ → ℕ → Type 0
      P a b = HoleFree a → a ≡ b

      g : Geometry
      g = w.scan.geometry

      fine : Near → Bool
      fine m = either (dropped w.scan.geometry m index) (finite x)

      last : ltb index limit ≡ true → P (require (fine (held_at w.scan.near index)) not_finite none) (require (fine w.scan.near) not_finite none)
      last l k =
          bool_case (hole w.scan.near index)
          (λ h. bool_case (fine (held_at w.scan.near index)) (λ t. absurd (true≢false (sym h ∙ k (pick_true _ _ _ t))))
          (λ t. ap (λ (b : Bool). require b not_finite none)
          (t ∙ sym (pick_false (dropped w.scan.geometry w.scan.near index) true (finite x) (pick_false (idle w.scan.near) _ false (hole_under_way w.scan.near index h)) ∙ either_right (dropped w.scan.geometry (held_at w.scan.near index) index) (finite x) t))))
          (λ h. ap (λ (m : Near). require (fine m) not_finite none) (pick_false (hole w.scan.near index) _ _ h))

  push_same : HoleFree (near_refusal w.scan w.buffers.levels x index) → pushed_near w.scan w.buffers.levels x index ≡ pushed_without w.scan w.buffers.levels x index
  unfolding pushed_near pushed_without
  push_same k =
      rw (← refusal_same k)
      (if_refused_both (λ (p q : NearPush). p ≡ q) (near_refusal w.scan w.buffers.levels x index) _ _ _ _ refl
      (λ z. pick_both (λ (p q : NearPush). p ≡ q) (finished w.scan.verdict) _ _ _ _ (λ f. refl)
      (λ f. ap (λ (m : Near). pick (dropped w.scan.geometry m index) (untaken (with_near w.scan m) w.buffers.levels taking.Dropped) (taken_by w.scan (gather w.scan.geometry (record { near = m; levels = w.buffers.levels }) x index))) (pick_false (hole w.scan.near index) _ _ (k z)))))

call_same : (slack : ℕ) (w : World) (c : Call) → NoHoleCall slack w c → called slack w c ≡ called_without slack w c
call_same slack w (far xs) k = refl
call_same slack w (deed (near x index)) k = (unfold called in ap (near_step w.buffers) (push_same w x index (λ z. k ((near_number slack w x index).is ∙ z))))
call_same slack w (deed score) k = refl
call_same slack w (deed rearm) k = refl
call_same slack w (deed discard) k = refl
call_same slack w (deed reset) k = refl
call_same slack w (deed (ask r)) k = refl

pub without_holes : WithoutHoles
unfolding answers after answers_without after_without
without_holes slack w [] k = (refl, refl)
without_holes slack w (own c ∷ items) k =
    let e = call_same slack w c k.0 in
    let o = without_holes slack (called slack w c).world items k.1 in
    rw (← e) (ap (λ (r : List Response). (called slack w c).response ∷ r) o.0, o.1)
without_holes slack w (foreign v c ∷ items) k = without_holes slack w items k
