-- Every call that a stream may make leaves its state and buffers sound.
use Prim.Native.Nat.{ℕ, ◌+◌, ◌*◌, ◌/◌, ◌%◌, ◌<◌, zero-le}
use mathlib.Core.Path.{◌≡◌, refl, sym, ap, ◌∙◌, subst}
use mathlib.Core.List.{List, [], ◌∷◌}
use mathlib.Core.Bool.{true, false, true≢false}
use native.Mathlib.Nat.{mod-lt, div-mul-le_self, lt_of_le_of_lt}
use native.Mathlib.Numerals.{add-one}
use native.Mathlib.Omega.{arith}
use lib.Dec.{T, ltb, eqb, lit<, lit≤}
use lib.ListN.{length, take, set, length-take}
use lib.Seq.{take-suc-set}
use lib.Ieee.{Float, binary32, fits}
use lib.Ieee.Scale.{finite}
use borrow.Author.Tests.{ltb-true, eqb-true, eqb-false, eq-eqb}
use Rattle.answers.specs.Pick.{pick_case}
use Rattle.answers.specs.Numbers.{limit}
use Rattle.floats.specs.Functions.{zero64}
use Rattle.floats.proofs.Levels.{AtMost, zero_at_most}
use Rattle.folds.specs.Sums.{zeros, at}
use Rattle.scan.specs.Bins.{envelope_len, window_len, lags}
use Rattle.scan.specs.State.{Buffers, World, emptied, finished, full, idle, taken}
use Rattle.scan.specs.Blocks.{Seen, gather, dropped, hole, held_at, first_bin, summed, level_of}
use Rattle.scan.specs.Scoring.{bin_at, window_of, quiet, flat, Ruling, ruling, scores_of, products, add_scores}
use Rattle.scan.specs.Calls.{Observation, FarPush, NearPush, Clearing, frame_of, window_in, is_uncovered, is_ahead, consumed, with_near_verdict, counted_by, clearing, far_refusal, pushed_far, near_refusal, pushed_near, score_refusal, counted_frame, judged, scored_frame, observed, clear_refusal, rearmed, discarded}
use Rattle.scan.specs.Steps.{Deed, near, score, rearm, discard, reset, ask, Call, far, deed, called}
use Rattle.scan.specs.Streams.{AllF32, FairDeed, FairCall}
use Rattle.scan.specs.declared.Geometry.{Geometry}
use Rattle.scan.specs.declared.Near.{Near}
use Rattle.scan.specs.declared.Verdict.{Verdict}
use Rattle.scan.proofs.Laws.{if_refused_case, both_and, All, all_append, all_zeros_lem, all_table, all_at, length_table, length_zeros}
use Rattle.scan.proofs.Settings.{Allowed, few, some, wide}
use Rattle.scan.proofs.Sizes.{Size, add_size}
use Rattle.scan.proofs.Scores.{score_bits, Readable, scores_size}
use Rattle.scan.proofs.Hears.{summed_at_most, block_level, hear_all_accepted, hear_all_length, hear_all_sound}
use Rattle.scan.proofs.Held.{held_next, held_room, block_placed, stands}
use Rattle.scan.proofs.Sound.{heard_in, seen_in, FarSound, NearSound, SumsSound, Sound}
use Rattle.scan.proofs.Accepted.{far_taken, near_taken, scoreable, right_lengths}
use Rattle.scan.proofs.Contracts.{far_step, near_step, score_step, clear_step, reset_unchanged}

-- ---- one near sample

module _ (g : Geometry) (a : Allowed g) where
  gathered : (t : Seen) (x : Float) (index : ℕ) → NearSound g t → length t.levels ≡ g.frame → full g t.near ≡ false → index < limit → finite x ≡ true → T (fits binary32 x)
      → (idle t.near ≡ false → index ≡ t.near.last + 1) → dropped g t.near index ≡ false → NearSound g (gather g t x index)
  unfolding gather
  gathered t x index s e r l f q o d =
      pick_case (NearSound g) (eqb (n.count + 1) g.decimation) _ _
      (λ c. record {
        partial = some g a;
        whole = λ u. refl;
        len = omega (arith, less);
        sum = zero_at_most;
        first = begun;
        placed = λ i. place ∙ ap (λ (k : ℕ). first_bin g t.near index * g.decimation + k) (sym (block_placed g n (eqb-true (n.count + 1) g.decimation c)));
        levels =
            subst (All (AtMost 1)) (sym (ap (λ (k : ℕ). take k (set t.levels n.len level)) (add-one n.len) ∙ take-suc-set t.levels n.len level (omega (arith, less))))
            (all_append (AtMost 1) (take n.len t.levels) (level ∷ []) s.levels (block_level g a (n.count + 1) (summed n.sum x) (omega (arith, s.partial)) sum, tt));
      })
      (λ c. record { partial = omega (arith, s.partial, eqb-false (n.count + 1) g.decimation c); whole = λ u. absurd (open_frame u); len = s.len; sum = sum; first = begun; placed = λ i. omega (arith, place); levels = s.levels })
    where
      n : Near
      n = t.near

      level : Float
      level = level_of g (summed t.near.sum x)

      open_frame : t.near.len ≡ g.frame → ⊥
      open_frame = eqb-false t.near.len g.frame r

      less : t.near.len < g.frame
      less = omega (arith, s.len, open_frame)

      sum : AtMost (t.near.count + 1) (summed t.near.sum x)
      sum = summed_at_most t.near.count t.near.sum x (omega (arith, few g a, s.partial)) s.sum f q

      place : index + 1 ≡ first_bin g t.near index * g.decimation + (taken g t.near + 1)
      place = stands g t.near index s.placed o d

      begun : first_bin g t.near index * g.decimation < limit
      begun = pick_case (λ (z : ℕ). z * g.decimation < limit) (idle t.near) (index / g.decimation) t.near.first (λ i. lt_of_le_of_lt (div-mul-le_self index g.decimation) l) (λ i. s.first)

  -- a frame or none is left
  consumed_sound : (t : Seen) (levels : List Float) → full g t.near ≡ true → NearSound g t → NearSound g (record { near = consumed t.near; levels = levels })
  consumed_sound t levels f s =
      record {
        partial = s.partial;
        whole = λ e. absurd (omega (arith, wide g a));
        len = zero-le;
        sum = s.sum;
        first = s.first;
        placed = λ i. absurd (true≢false (sym (both_and _ _ (eq-eqb t.near.count 0 (s.whole (eqb-true t.near.len g.frame f))) refl) ∙ i));
        levels = tt;
      }

  pub cleared_sound : (first last : ℕ) (levels : List Float) → first * g.decimation < limit → NearSound g (record { near = record { len = 0; sum = zero64; count = 0; first = first; last = last }; levels = levels })
  cleared_sound first last levels l =
      record { partial = some g a; whole = λ e. refl; len = zero-le; sum = zero_at_most; first = l; placed = λ i. absurd (true≢false (sym (both_and true true refl refl) ∙ i)); levels = tt }

  -- a hole drops the frame
  held_sound : (t : Seen) (index : ℕ) → NearSound g t → NearSound g (record { near = held_at t.near index; levels = t.levels })
  held_sound t index s =
      pick_case (λ (m : Near). NearSound g (record { near = m; levels = t.levels })) (hole t.near index) (emptied t.near) t.near (λ h. cleared_sound t.near.first t.near.last t.levels s.first) (λ h. s)

-- none banked
pub none_banked : (g : Geometry) → SumsSound g 0 (zeros (lags g))
none_banked g = record { length = length_zeros (lags g); sizes = all_zeros_lem (Size 0 score_bits) (lags g) (lit≤ tt) }

-- one more banked
one_banked : (g : Geometry) (banked : ℕ) (lag_sums more : List Float) → banked < 4 → SumsSound g banked lag_sums → length more ≡ lags g → All (Size 1 score_bits) more → SumsSound g (banked + 1) (add_scores g lag_sums more)
unfolding add_scores
one_banked g banked lag_sums more b s e h =
    record {
      length = length_table _ (lags g);
      sizes =
          all_table (Size (banked + 1) score_bits) _ (lags g)
          (λ k l. add_size banked 1 score_bits (at lag_sums k) (at more k) (record { digits = omega arith; small = lit≤ tt }) (all_at (Size banked score_bits) lag_sums k (omega (arith, s.length)) s.sizes) (all_at (Size 1 score_bits) more k (omega arith) h));
    }

-- ---- every call

module _ (slack : ℕ) (w : World) (s : Sound slack w) where
  abbrev g : Geometry
  g = w.scan.geometry

  far_sound : (xs : List Float) → AllF32 xs → Sound slack (far_step w.buffers (pushed_far slack w.scan w.buffers.envelope xs)).world
  unfolding pushed_far
  far_sound xs t =
      if_refused_case (λ (p : FarPush). Sound slack (far_step w.buffers p).world) (far_refusal slack w.scan w.buffers.envelope xs) _ _ (λ r. s)
      (λ z. let c = far_taken slack w xs z in record {
        allowed = s.allowed;
        far =
            record {
              heard = hear_all_sound slack g s.allowed (heard_in w) xs s.far.heard c.finite t;
              accepted = omega (arith, hear_all_accepted slack g (heard_in w) xs, c.room);
              length = hear_all_length slack g (heard_in w) xs ∙ s.far.length;
            };
        near = s.near;
        verdict = s.verdict;
        lag_sums = s.lag_sums;
      })

  near_sound : (x : Float) (index : ℕ) → T (fits binary32 x) → Sound slack (near_step w.buffers (pushed_near w.scan w.buffers.levels x index)).world
  unfolding pushed_near
  near_sound x index t =
      if_refused_case P (near_refusal w.scan w.buffers.levels x index) _ _ (λ r. s)
      (λ z. pick_case P (finished w.scan.verdict) _ _ (λ f. s)
      (λ f. let m = held_at w.scan.near index in
      let held = held_sound g s.allowed (seen_in w) index s.near in
      pick_case P (dropped g m index) _ _
      (λ d. record { allowed = s.allowed; far = s.far; near = held; verdict = record { banked = s.verdict.banked; rests = λ e. absurd (true≢false (sym e ∙ f)) }; lag_sums = s.lag_sums })
      (λ d. let c = near_taken w x index z f d in record {
        allowed = s.allowed;
        far = s.far;
        near = gathered g s.allowed (record { near = m; levels = w.buffers.levels }) x index held (c.length ∙ ap (λ (h : Geometry). h.frame) (sym s.allowed.follows)) (held_room g s.allowed w.scan.near index c.room) c.small c.finite t (held_next w.scan.near index) d;
        verdict = record { banked = s.verdict.banked; rests = λ e. absurd (true≢false (sym e ∙ f)) };
        lag_sums = s.lag_sums;
      })))
    where
      P : NearPush → Type 0
      P p = Sound slack (near_step w.buffers p).world

  -- the frame is consumed: with this verdict and these buffers
  scored_sound : full g w.scan.near ≡ true → (v : Verdict) (b : Buffers) → v.banked < 4 → b.envelope ≡ w.buffers.envelope → SumsSound g v.banked b.lag_sums
      → Sound slack (record { scan = with_near_verdict w.scan (consumed w.scan.near) v; buffers = b })
  scored_sound f v b k e l =
      record {
        allowed = s.allowed;
        far = subst (λ (z : List Float). FarSound slack g (record { far = w.scan.far; envelope = z })) (sym e) s.far;
        near = consumed_sound g s.allowed (seen_in w) b.levels f s.near;
        verdict = record { banked = k; rests = λ u. both_and _ _ (eq-eqb w.scan.near.count 0 (s.near.whole (eqb-true w.scan.near.len g.frame f))) refl };
        lag_sums = l;
      }

  -- where the verdict and the lag sums stay
  unruled : full g w.scan.near ≡ true → (b : Buffers) → b.envelope ≡ w.buffers.envelope → b.lag_sums ≡ w.buffers.lag_sums
      → Sound slack (record { scan = with_near_verdict w.scan (consumed w.scan.near) w.scan.verdict; buffers = b })
  unruled f b e l = scored_sound f w.scan.verdict b s.verdict.banked e (subst (SumsSound g w.scan.verdict.banked) (sym l) s.lag_sums)

  counted_sound : full g w.scan.near ≡ true → (levels window : List Float) → Readable g levels window → flat levels ≡ false → Sound slack (score_step (counted_frame w levels window)).world
  unfolding counted_frame ruling scores_of
  counted_sound f levels window r e =
      let scores = scores_of g levels window in
      pick_case (λ (r : Ruling). Sound slack (score_step (counted_by w window scores r (products g levels window))).world) (ltb (w.scan.verdict.banked + 1) 4) _ _
      (λ t. scored_sound f _ _ (ltb-true (w.scan.verdict.banked + 1) 4 t) refl
      (one_banked g w.scan.verdict.banked w.buffers.lag_sums scores s.verdict.banked s.lag_sums (length_table _ (lags g)) (scores_size g s.allowed levels window r e)))
      (λ t. scored_sound f _ _ (lit< tt) refl (none_banked g))

  judged_sound : full g w.scan.near ≡ true → (levels window : List Float) → Readable g levels window → Sound slack (score_step (judged w levels window)).world
  unfolding judged
  judged_sound f levels window r =
      pick_case P (quiet window) _ _ (λ t. unruled f _ refl refl) (λ t. pick_case P (flat levels) _ _ (λ u. unruled f _ refl refl) (λ u. counted_sound f levels window r u))
    where
      P : Observation → Type 0
      P p = Sound slack (score_step p).world

  bin_small : (j : ℕ) → AtMost 1 (bin_at slack g w.scan.far.next w.buffers.envelope j)
  bin_small j = pick_case (AtMost 1) _ _ zero64 (λ t. all_at (AtMost 1) w.buffers.envelope (j % envelope_len slack g) (omega (arith, s.far.length, mod-lt j slots)) s.far.heard.levels) (λ t. lit≤ tt)
    where
      slots : 0 < envelope_len slack g
      slots = omega (arith, wide g s.allowed)

  pub window_small : All (AtMost 1) (window_in slack w)
  unfolding window_of
  window_small = all_table (AtMost 1) _ (window_len g) (λ i l. bin_small _)

  frame_readable : score_refusal slack w ≡ 0 → Readable g (frame_of w) (window_in slack w)
  unfolding window_of
  frame_readable z =
      let f = eqb-true w.scan.near.len g.frame (scoreable slack w z).full in
      record {
        levels_length = omega (arith, length-take w.scan.near.len w.buffers.levels, (right_lengths slack w s.allowed z).levels, f);
        window_length = length_table _ (window_len g);
        levels_small = s.near.levels;
        window_small = window_small;
      }

  score_sound : Sound slack (score_step (observed slack w)).world
  unfolding observed scored_frame
  score_sound =
      if_refused_case P (score_refusal slack w) _ _ (λ r. s)
      (λ z. let f = (scoreable slack w z).full in
      pick_case P (is_uncovered slack w) _ _ (λ t. unruled f w.buffers refl refl)
      (λ t. pick_case P (is_ahead w) _ _ (λ u. unruled f w.buffers refl refl) (λ u. judged_sound f (frame_of w) (window_in slack w) (frame_readable z))))
    where
      P : Observation → Type 0
      P p = Sound slack (score_step p).world

  -- no frame is left, nor a block of one
  clear_sound : (first last : ℕ) (v : Verdict) → first * g.decimation < limit → v.banked ≡ 0
      → Sound slack (clear_step w.buffers (clearing w.scan w.buffers.lag_sums (with_near_verdict w.scan (record { len = 0; sum = zero64; count = 0; first = first; last = last }) v))).world
  clear_sound first last v l k =
      if_refused_case (λ (p : Clearing). Sound slack (clear_step w.buffers p).world) (clear_refusal w.scan w.buffers.lag_sums) _ _ (λ r. s)
      (λ z. record {
        allowed = s.allowed;
        far = s.far;
        near = cleared_sound g s.allowed first last w.buffers.levels l;
        verdict = record { banked = omega arith; rests = λ e. both_and true true refl refl };
        lag_sums = subst (λ (n : ℕ). SumsSound g n (zeros (lags g))) (sym k) (none_banked g);
      })

  deed_sound : (d : Deed) → FairDeed slack w d → Sound slack (called slack w (deed d)).world
  unfolding called rearmed discarded
  deed_sound (near x index) f = near_sound x index f
  deed_sound score f = score_sound
  deed_sound rearm f = clear_sound 0 0 _ (omega arith) refl
  deed_sound discard f = clear_sound w.scan.near.first w.scan.near.last _ s.near.first refl
  deed_sound reset f = subst (Sound slack) (sym (reset_unchanged slack w f)) s
  deed_sound (ask r) f = s

  pub called_sound : (c : Call) → FairCall slack w c → Sound slack (called slack w c).world
  unfolding called
  called_sound (far xs) f = far_sound xs f
  called_sound (deed d) f = deed_sound d f
