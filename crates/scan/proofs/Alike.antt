-- Two worlds that agree on all that a frame may read of the far blocks that are kept: every call answers alike in both, and leaves them alike.
-- The blocks that are kept are any. Demand 3 keeps those from a block on (Late).
use Prim.Native.Nat.{ℕ, ◌+◌, ◌-◌, ◌≤◌, ◌<◌}
use mathlib.Core.Path.{◌≡◌, refl, sym, ap, ap₂, ◌∙◌, subst, subst₂}
use mathlib.Core.Logic.{◌⊎◌, inl, inr}
use mathlib.Core.List.{List, [], ◌∷◌}
use mathlib.Core.Bool.{Bool, true, false}
use native.Mathlib.Nat.{eq-or-lt_of_le}
use native.Mathlib.Omega.{arith}
use lib.Dec.{T, ltb, eqb}
use lib.ListN.{length, set, length-set}
use lib.Seq.{get_or-set_other}
use lib.Ieee.{Float, nan, binary32, fits}
use borrow.Author.Tests.{ltb-true, ltb-false, eqb-true}
use Rattle.answers.specs.Pick.{pick, pick_case}
use Rattle.answers.specs.Refusals.{require, before, none, not_finite, wrong_length}
use Rattle.folds.specs.Sums.{at, all_finite, prefix_sums, prefix_squares}
use Rattle.scan.specs.Bins.{envelope_len, window_len}
use Rattle.scan.specs.State.{Buffers, World, finished, full, due, first_refusals}
use Rattle.scan.specs.Blocks.{Seen, gather, dropped, hole, held_at, summed, level_of}
use Rattle.scan.specs.Scoring.{uncovered, window_of, bin_at, quiet, flat, scores_of}
use Rattle.scan.specs.Calls.{Observation, FarPush, NearPush, Clearing, Restart, all_lengths, frame_of, window_in, is_uncovered, is_ahead, with_near, with_near_verdict, far_refusal, pushed_far, near_refusal, pushed_near, score_refusal, counted_frame, judged, scored_frame, observed, taken_by, clearing, clear_refusal, rearmed, discarded, reset_refusal, was_reset, report_refusal, bin_samples, ceiling_samples, region_of, beyond_ceiling, is_finished, is_exhausted, frames_of, correlation_of}
use Rattle.scan.specs.Steps
use Rattle.scan.specs.Steps.{Report, bin_samples_report, ceiling_samples_report, region, beyond_ceiling_report, frames, correlation, exhausted, Deed, near, score, rearm, discard, reset, ask, Call, far, deed, Response, refusal_of, takes, Step, step, with_levels, with_lag_sums, reported, called}
use Rattle.scan.specs.Streams.{AllF32, Item, own, foreign, after, answers, Accepted, Lengths, lengths_of}
use Rattle.scan.specs.FourFacts.{is_accepted}
use Rattle.scan.specs.Compact.{part_after}
use Rattle.scan.specs.declared.Geometry.{Geometry}
use Rattle.scan.specs.declared.Near.{Near}
use Rattle.scan.specs.declared.Verdict.{Verdict}
use Rattle.scan.specs.declared.Taking.{Taking}
use Rattle.scan.specs.declared.Taking.TheVariants as taking
use Rattle.scan.proofs.Laws.{pick_both, if_refused_both, if_refused_none, either_left, either_right, stored_alike, take_alike, table_alike}
use Rattle.scan.proofs.Numbered.{reset_number}
use Rattle.scan.proofs.Hears.{with_sum, HeardAlike, SamplesAlike, samples_length, hears_all}
use Rattle.scan.proofs.Sound.{heard_in, seen_in, Sound, first_refusals_lem}
use Rattle.scan.proofs.Accepted.{far_taken, scoreable}
use Rattle.scan.proofs.Contracts.{far_step, near_step, score_step, clear_step, reset_step}
use Rattle.scan.proofs.Fresh.{fresh, reset_sound}
use Rattle.scan.proofs.Keeps.{called_sound}

-- what the near side may read: the frame's levels
pub record SeenAlike (t u : Seen) : Type 0 where
  pub near : u.near ≡ t.near
  pub length : lib.ListN.length u.levels ≡ lib.ListN.length t.levels
  pub levels : (i : ℕ) → i < t.near.len → at u.levels i ≡ at t.levels i

-- two worlds that agree on all but the far blocks that are not kept, and on what scoring leaves in the buffers that it fills
pub record Alike (slack : ℕ) (keeps : ℕ → Type 0) (w v : World) : Type 0 where
  pub geometry : v.scan.geometry ≡ w.scan.geometry
  pub verdict : v.scan.verdict ≡ w.scan.verdict
  pub heard : HeardAlike slack w.scan.geometry keeps (heard_in w) (heard_in v)
  pub seen : SeenAlike (seen_in w) (seen_in v)
  pub lengths : lengths_of v.buffers ≡ lengths_of w.buffers
  pub lag_sums : v.buffers.lag_sums ≡ w.buffers.lag_sums

-- the same answer, and worlds alike
pub record AnswersAlike (slack : ℕ) (keeps : ℕ → Type 0) (s t : Step) : Type 0 where
  pub response : t.response ≡ s.response
  pub world : Alike slack keeps s.world t.world

-- ---- what is asked of a call

-- a full frame that is neither uncovered nor ahead: every written bin of its window is kept
abbrev pub FrameKept : ℕ → (ℕ → Type 0) → World → Type 0
FrameKept slack keeps w =
    full w.scan.geometry w.scan.near ≡ true → is_uncovered slack w ≡ false → is_ahead w ≡ false
    → (j : ℕ) → w.scan.near.first - w.scan.geometry.span ≤ j → j < w.scan.near.first + w.scan.geometry.frame → j < w.scan.far.next → keeps j

-- of a deed: a near sample is of the type f32, and the frame that is scored reads only what is kept
abbrev pub DeedKept : ℕ → (ℕ → Type 0) → World → Deed → Type 0
DeedKept slack keeps w (near x index) = T (fits binary32 x)
DeedKept slack keeps w score = FrameKept slack keeps w
DeedKept slack keeps w rearm = Unit {0}
DeedKept slack keeps w discard = Unit {0}
DeedKept slack keeps w reset = Unit {0}
DeedKept slack keeps w (ask r) = Unit {0}

-- of two far pushes with samples numbered from n on: those of the blocks kept are the same, all are of the type f32, and both pushes are finite or neither
pub record PushesAlike (g : Geometry) (keeps : ℕ → Type 0) (n : ℕ) (xs ys : List Float) : Type 0 where
  pub samples : SamplesAlike g keeps n xs ys
  pub finite : all_finite ys ≡ all_finite xs
  pub f32 : AllF32 xs
  pub f32' : AllF32 ys

-- the calls c and d, made of w and of a world alike
abbrev pub CallsAlike : ℕ → (ℕ → Type 0) → World → Call → Call → Type 0
CallsAlike slack keeps w (far xs) (far ys) = PushesAlike w.scan.geometry keeps w.scan.far.accepted xs ys
CallsAlike slack keeps w (far xs) (deed e) = ⊥
CallsAlike slack keeps w (deed d) (far ys) = ⊥
CallsAlike slack keeps w (deed d) (deed e) = (e ≡ d) × DeedKept slack keeps w d

-- ---- one world, and another with what may differ

-- the world w with another far running sum and other buffers, but for the lag sums
abbrev other : World → Float → Buffers → World
other w sum b = record { scan = record { geometry = w.scan.geometry; far = with_sum w.scan.far sum; near = w.scan.near; verdict = w.scan.verdict }; buffers = with_lag_sums b w.buffers.lag_sums }

-- a world that is alike is such a one
is_other : (slack : ℕ) (keeps : ℕ → Type 0) (w v : World) → Alike slack keeps w v → v ≡ other w v.scan.far.sum v.buffers
is_other slack keeps w v h =
    λ i. record {
      scan = record { geometry = h.geometry i; far = h.heard.numbers i; near = h.seen.near i; verdict = h.verdict i };
      buffers = with_lag_sums v.buffers (h.lag_sums i);
    }

-- a world is alike to itself
pub alike_same : (slack : ℕ) (keeps : ℕ → Type 0) (w : World) → Alike slack keeps w w
alike_same slack keeps w =
    record {
      geometry = refl;
      verdict = refl;
      heard = record { numbers = refl; sum = λ b. refl; lengths = refl; bins = λ j b l n. refl };
      seen = record { near = refl; length = refl; levels = λ i j. refl };
      lengths = refl;
      lag_sums = refl;
    }

-- two new scans with buffers of the same lengths, whatever is kept
pub fresh_alike : (slack : ℕ) (keeps : ℕ → Type 0) (g : Geometry) (lent lent' : Buffers) → lengths_of lent' ≡ lengths_of lent → Alike slack keeps (fresh slack g lent) (fresh slack g lent')
fresh_alike slack keeps g lent lent' e =
    record {
      geometry = refl;
      verdict = refl;
      heard = record { numbers = refl; sum = λ b. refl; lengths = refl; bins = λ j b l n. refl };
      seen = record { near = refl; length = ap (λ (k : Lengths). k.levels) e; levels = λ i j. absurd (omega arith) };
      lengths = e;
      lag_sums = refl;
    }

-- a frame that is not uncovered has a window of bins that the envelope still holds, from s - span on
covered : (slack : ℕ) (g : Geometry) (next s : ℕ) → uncovered slack g next s ≡ false → (g.span ≤ s) × (next ≤ s - g.span + envelope_len slack g)
unfolding uncovered
covered slack g next s u = omega (arith, ltb-false s g.span (either_left (ltb s g.span) _ u), ltb-false (s - g.span) (next - envelope_len slack g) (either_right (ltb s g.span) _ u))

module _ (slack : ℕ) (keeps : ℕ → Type 0) (w : World) (sum : Float) (b : Buffers) (h : Alike slack keeps w (other w sum b)) (s : Sound slack w) (s' : Sound slack (other w sum b)) where
  abbrev g : Geometry
  g = w.scan.geometry

  abbrev v : World
  v = other w sum b

  abbrev Both : Step → Step → Type 0
  Both = AnswersAlike slack keeps

  first_same : (t u : Bool) → u ≡ t → first_refusals v.scan u ≡ first_refusals w.scan t
  first_same t u e = first_refusals_lem slack v s' u ∙ ap (λ (z : Bool). require z wrong_length none) e ∙ sym (first_refusals_lem slack w s t)

  -- ---- a full frame: its levels and its window are the same

  frame_same : frame_of v ≡ frame_of w
  frame_same = take_alike b.levels w.buffers.levels w.scan.near.len h.seen.length h.seen.levels

  -- a bin that the envelope still holds
  bin_same : (j : ℕ) → (j < w.scan.far.next → keeps j) → w.scan.far.next ≤ j + envelope_len slack g → bin_at slack g w.scan.far.next b.envelope j ≡ bin_at slack g w.scan.far.next w.buffers.envelope j
  bin_same j l c = pick_both (λ (x y : Float). x ≡ y) _ _ _ _ _ (λ t. let n = ltb-true j w.scan.far.next t in h.heard.bins j (l n) n c) (λ t. refl)

  window_same : FrameKept slack keeps w → full g w.scan.near ≡ true → is_uncovered slack w ≡ false → is_ahead w ≡ false → window_in slack v ≡ window_in slack w
  unfolding window_of
  window_same k f u a =
      let c = covered slack g w.scan.far.next w.scan.near.first u in
      table_alike _ _ (window_len g) (λ i l. bin_same _ (k f u a _ (omega arith) (omega arith)) (omega arith))

  -- ---- refusals

  near_refusal_lem : (x : Float) (index : ℕ) → near_refusal v.scan v.buffers.levels x index ≡ near_refusal w.scan w.buffers.levels x index
  unfolding near_refusal
  near_refusal_lem x index = let e = first_same (eqb (length w.buffers.levels) (due w.scan).frame) (eqb (length b.levels) (due w.scan).frame) (ap (λ (n : ℕ). eqb n (due w.scan).frame) h.seen.length) in cc

  clear_refusal_lem : clear_refusal v.scan w.buffers.lag_sums ≡ clear_refusal w.scan w.buffers.lag_sums
  unfolding clear_refusal
  clear_refusal_lem = first_same _ _ refl

  reset_refusal_lem : reset_refusal slack v.scan b.envelope w.buffers.lag_sums ≡ reset_refusal slack w.scan w.buffers.envelope w.buffers.lag_sums
  unfolding reset_refusal
  reset_refusal_lem = let e : length b.envelope ≡ length w.buffers.envelope = h.heard.lengths in first_same _ _ (cc)

  report_refusal_lem : report_refusal v.scan ≡ report_refusal w.scan
  unfolding report_refusal
  report_refusal_lem = first_same true true refl

  score_refusal_lem : FrameKept slack keeps w → score_refusal slack v ≡ score_refusal slack w
  unfolding score_refusal
  score_refusal_lem k =
      let e : length b.envelope ≡ length w.buffers.envelope = h.heard.lengths in
      let e₁ : length b.levels ≡ length w.buffers.levels = h.seen.length in
      let e₂ : length b.window ≡ length w.buffers.window = ap (λ (l : Lengths). l.window) h.lengths in
      let e₃ : length b.prefix ≡ length w.buffers.prefix = ap (λ (l : Lengths). l.prefix) h.lengths in
      let e₄ : length b.squares ≡ length w.buffers.squares = ap (λ (l : Lengths). l.squares) h.lengths in
      let e₅ : length b.scores ≡ length w.buffers.scores = ap (λ (l : Lengths). l.scores) h.lengths in
      let c = first_same (all_lengths slack (due w.scan) w.buffers) (all_lengths slack (due w.scan) v.buffers) (cc) in
      ap₂ {A = ℕ} {B = ℕ} (λ (m n : ℕ). before m n) c
      (pick_both (λ (m n : ℕ). m ≡ n) (full g w.scan.near) _ _ _ _
      (λ f. ap (λ (z : Bool). require z not_finite none) (pick_both (λ (x y : Bool). x ≡ y) (is_uncovered slack w) _ _ _ _ (λ u. refl)
      (λ u. pick_both (λ (x y : Bool). x ≡ y) (is_ahead w) _ _ _ _ (λ a. refl) (λ a. let p = frame_same in let q = window_same k f u a in cc)))) (λ f. refl))

  -- ---- scoring, rearm, discard

  -- no frame is left: with the near numbers and the verdict the same, the lag sums too, and all lengths
  emptied : (n : Near) (verdict : Verdict) (before after : Buffers) → n.len ≡ 0
      → before.envelope ≡ w.buffers.envelope → after.envelope ≡ b.envelope → after.lag_sums ≡ before.lag_sums → lengths_of after ≡ lengths_of before
      → Alike slack keeps (record { scan = with_near_verdict w.scan n verdict; buffers = before }) (record { scan = with_near_verdict v.scan n verdict; buffers = after })
  emptied n verdict before after z p q t e =
      record {
        geometry = refl;
        verdict = refl;
        heard = subst₂ (λ (x y : List Float). HeardAlike slack g keeps (record { far = w.scan.far; envelope = x }) (record { far = v.scan.far; envelope = y })) (sym p) (sym q) h.heard;
        seen = record { near = refl; length = ap (λ (k : Lengths). k.levels) e; levels = λ i j. absurd (omega arith) };
        lengths = e;
        lag_sums = t;
      }

  abbrev Scored : Observation → Observation → Type 0
  Scored p q = Both (score_step p) (score_step q)

  judged_alike : (levels window : List Float) → Scored (judged w levels window) (judged v levels window)
  unfolding judged counted_frame
  judged_alike levels window =
      pick_both Scored (quiet window) _ _ _ _ (λ t. record { response = refl; world = emptied _ _ _ _ refl refl refl refl windowed })
      (λ t. pick_both Scored (flat levels) _ _ _ _ (λ u. record { response = refl; world = emptied _ _ _ _ refl refl refl refl windowed }) (λ u. record { response = refl; world = emptied _ _ _ _ refl refl refl refl counted_lengths }))
    where
      windowed : ◌≡◌ {A = Lengths}
          (record { levels = length b.levels; window = length window; prefix = length b.prefix; squares = length b.squares; scores = length b.scores })
          (record { levels = length w.buffers.levels; window = length window; prefix = length w.buffers.prefix; squares = length w.buffers.squares; scores = length w.buffers.scores })
      windowed = ap (λ (l : Lengths). record { levels = l.levels; window = length window; prefix = l.prefix; squares = l.squares; scores = l.scores }) h.lengths

      counted_lengths : ◌≡◌ {A = Lengths}
          (record { levels = length b.levels; window = length window; prefix = length (prefix_sums window); squares = length (prefix_squares window); scores = length (scores_of g levels window) })
          (record { levels = length w.buffers.levels; window = length window; prefix = length (prefix_sums window); squares = length (prefix_squares window); scores = length (scores_of g levels window) })
      counted_lengths = ap (λ (n : ℕ). record { levels = n; window = length window; prefix = length (prefix_sums window); squares = length (prefix_squares window); scores = length (scores_of g levels window) }) h.seen.length

  score_alike : FrameKept slack keeps w → Scored (observed slack w) (observed slack v)
  unfolding observed scored_frame
  score_alike k =
      rw (score_refusal_lem k)
      (if_refused_both Scored (score_refusal slack w) _ _ _ _ (record { response = refl; world = h })
      (λ z. let f = (scoreable slack w z).full in
      pick_both Scored (is_uncovered slack w) _ _ _ _ (λ u. record { response = refl; world = emptied _ _ _ _ refl refl refl refl h.lengths })
      (λ u. pick_both Scored (is_ahead w) _ _ _ _ (λ t. record { response = refl; world = emptied _ _ _ _ refl refl refl refl h.lengths })
      (λ t. rw (frame_same, window_same k f u t) (judged_alike (frame_of w) (window_in slack w))))))

  clear_alike : (n : Near) (verdict : Verdict) → n.len ≡ 0
      → Both (clear_step w.buffers (clearing w.scan w.buffers.lag_sums (with_near_verdict w.scan n verdict))) (clear_step v.buffers (clearing v.scan w.buffers.lag_sums (with_near_verdict v.scan n verdict)))
  clear_alike n verdict z =
      rw clear_refusal_lem
      (if_refused_both (λ (p q : Clearing). Both (clear_step w.buffers p) (clear_step v.buffers q)) (clear_refusal w.scan w.buffers.lag_sums) _ _ _ _ (record { response = refl; world = h })
      (λ c. record { response = refl; world = emptied n verdict _ _ z refl refl refl h.lengths }))

  reset_alike : Both (reset_step w.buffers (was_reset slack w.scan w.buffers.envelope w.buffers.lag_sums)) (reset_step v.buffers (was_reset slack v.scan b.envelope w.buffers.lag_sums))
  unfolding was_reset
  reset_alike =
      rw reset_refusal_lem
      (if_refused_both (λ (p q : Restart). Both (reset_step w.buffers p) (reset_step v.buffers q)) (reset_refusal slack w.scan w.buffers.envelope w.buffers.lag_sums) _ _ _ _
      (record { response = refl; world = h }) (λ z. record { response = refl; world = fresh_alike slack keeps g w.buffers v.buffers h.lengths }))

  -- from an accepted reset on, any other blocks may be kept
  reset_anew : (keeps' : ℕ → Type 0) → Accepted slack w (deed reset) → AnswersAlike slack keeps' (called slack w (deed reset)) (called slack v (deed reset))
  unfolding called was_reset
  reset_anew keeps' a =
      let z : reset_refusal slack w.scan w.buffers.envelope w.buffers.lag_sums ≡ 0 = sym (reset_number slack w).is ∙ a in
      subst₂ (λ (p q : Restart). AnswersAlike slack keeps' (reset_step w.buffers p) (reset_step v.buffers q)) (sym (if_refused_none _ _ _ z)) (sym (if_refused_none _ _ _ (reset_refusal_lem ∙ z)))
      (record { response = refl; world = fresh_alike slack keeps' g w.buffers v.buffers h.lengths })

  -- ---- reports

  report_same : (r : Report) → reported v.scan r ≡ reported w.scan r
  report_same bin_samples_report = (unfold bin_samples in rw report_refusal_lem)
  report_same ceiling_samples_report = (unfold ceiling_samples in rw report_refusal_lem)
  report_same region = (unfold region_of in rw report_refusal_lem)
  report_same beyond_ceiling_report = (unfold beyond_ceiling in rw report_refusal_lem)
  report_same frames = (unfold frames_of in rw report_refusal_lem)
  report_same correlation = (unfold correlation_of in rw report_refusal_lem)
  report_same Steps.finished = (unfold is_finished in rw report_refusal_lem)
  report_same exhausted = (unfold is_exhausted in rw report_refusal_lem)

  -- ---- near samples

  -- the same near side, with its levels in the one world and in the other
  abbrev LevelsAlike : Near → Type 0
  LevelsAlike m = SeenAlike (record { near = m; levels = w.buffers.levels }) (record { near = m; levels = b.levels })

  -- a hole leaves no level to read
  held_alike : (index : ℕ) → LevelsAlike (held_at w.scan.near index)
  held_alike index = pick_case LevelsAlike (hole w.scan.near index) _ _ (λ e. record { near = refl; length = h.seen.length; levels = λ i j. absurd (omega arith) }) (λ e. h.seen)

  gather_alike : (m : Near) → LevelsAlike m → (x : Float) (index : ℕ) → SeenAlike (gather g (record { near = m; levels = w.buffers.levels }) x index) (gather g (record { near = m; levels = b.levels }) x index)
  unfolding gather
  gather_alike m a x index =
      pick_both SeenAlike (eqb (m.count + 1) g.decimation) _ _ _ _
      (λ c. record { near = refl; length = simp length-set a.length; levels = λ j k. stored j (eq-or-lt_of_le (omega arith)) })
      (λ c. record { near = refl; length = a.length; levels = a.levels })
    where
      level : Float
      level = level_of g (summed m.sum x)

      stored : (j : ℕ) → (j ≡ m.len) ⊎ (j < m.len) → at (set b.levels m.len level) j ≡ at (set w.buffers.levels m.len level) j
      stored j (inl e) = rw e (stored_alike b.levels w.buffers.levels m.len level a.length)
      stored j (inr l) = get_or-set_other b.levels m.len j level nan (omega arith) ∙ a.levels j l ∙ sym (get_or-set_other w.buffers.levels m.len j level nan (omega arith))

  near_alike : (x : Float) (index : ℕ) → Both (near_step w.buffers (pushed_near w.scan w.buffers.levels x index)) (near_step v.buffers (pushed_near v.scan b.levels x index))
  unfolding called pushed_near
  near_alike x index =
      rw (near_refusal_lem x index)
      (if_refused_both P (near_refusal w.scan w.buffers.levels x index) _ _ _ _ unchanged
      (λ z. pick_both P (finished w.scan.verdict) _ _ _ _ (λ f. unchanged)
      (λ f. pick_both P (dropped g (held_at w.scan.near index) index) _ _ _ _
      (λ d. record { response = refl; world = seen _ _ (held_alike index) })
      (λ d. taken _ _ (gather_alike _ (held_alike index) x index)))))
    where
      P : NearPush → NearPush → Type 0
      P p q = Both (near_step w.buffers p) (near_step v.buffers q)

      unchanged : {a : Taking} → Both (step (takes a) w.scan w.buffers) (step (takes a) v.scan v.buffers)
      unchanged {a} = record { response = refl; world = h }

      -- with this near side and these near levels
      seen : (t u : Seen) → SeenAlike t u → Alike slack keeps (record { scan = with_near w.scan t.near; buffers = with_levels w.buffers t.levels }) (record { scan = with_near v.scan u.near; buffers = with_levels v.buffers u.levels })
      seen t u k =
          record {
            geometry = refl;
            verdict = refl;
            heard = h.heard;
            seen = k;
            lengths = λ i. record { levels = k.length i; window = (h.lengths i).window; prefix = (h.lengths i).prefix; squares = (h.lengths i).squares; scores = (h.lengths i).scores };
            lag_sums = refl;
          }

      taken : (t u : Seen) → SeenAlike t u → P (taken_by w.scan t) (taken_by v.scan u)
      taken t u k = record { response = ap (λ (n : Near). takes (pick (full g n) taking.Full taking.Taken)) k.near; world = seen t u k }

  -- ---- far samples

  module _ (xs ys : List Float) (p : PushesAlike g keeps w.scan.far.accepted xs ys) where
    far_refusal_lem : far_refusal slack v.scan b.envelope ys ≡ far_refusal slack w.scan w.buffers.envelope xs
    unfolding far_refusal
    far_refusal_lem =
        let e = first_same (eqb (length w.buffers.envelope) (envelope_len slack (due w.scan))) (eqb (length b.envelope) (envelope_len slack (due w.scan))) (ap (λ (n : ℕ). eqb n (envelope_len slack (due w.scan))) h.heard.lengths) in
        let l = samples_length g keeps w.scan.far.accepted xs ys p.samples in
        let f = p.finite in
        cc

    far_alike_lem : Both (far_step w.buffers (pushed_far slack w.scan w.buffers.envelope xs)) (far_step v.buffers (pushed_far slack v.scan b.envelope ys))
    unfolding pushed_far
    far_alike_lem =
        rw far_refusal_lem
        (if_refused_both (λ (p q : FarPush). Both (far_step w.buffers p) (far_step v.buffers q)) (far_refusal slack w.scan w.buffers.envelope xs) _ _ _ _ (record { response = refl; world = h })
        (λ z. record {
          response = refl;
          world =
              record {
                geometry = refl;
                verdict = refl;
                heard = hears_all slack g keeps s.allowed xs ys (heard_in w) (heard_in v) p.samples (far_taken slack w xs z).finite p.f32 s.far.heard h.heard;
                seen = h.seen;
                lengths = h.lengths;
                lag_sums = refl;
              };
        }))

  -- ---- every call

  deed_alike : (d : Deed) → DeedKept slack keeps w d → Both (called slack w (deed d)) (called slack v (deed d))
  deed_alike (near x index) k = (unfold called in near_alike x index)
  deed_alike score k = (unfold called in score_alike k)
  deed_alike rearm k = (unfold called rearmed in clear_alike _ _ refl)
  deed_alike discard k = (unfold called discarded in clear_alike _ _ refl)
  deed_alike reset k = (unfold called in reset_alike)
  deed_alike (ask r) k = (unfold called in record { response = report_same r; world = h })

  call_alike : (c d : Call) → CallsAlike slack keeps w c d → Both (called slack w c) (called slack v d)
  call_alike (far xs) (far ys) k = (unfold called in far_alike_lem xs ys k)
  call_alike (far xs) (deed e) k = absurd k
  call_alike (deed d) (far ys) k = absurd k
  call_alike (deed d) (deed e) k = rw k.0 (deed_alike d k.1)

-- ---- the laws

module _ (slack : ℕ) (keeps : ℕ → Type 0) where
  -- the step law: the same call of two worlds alike, but for far samples of blocks that are not kept, is answered alike and leaves them alike
  pub called_alike : (w v : World) (c d : Call) → Alike slack keeps w v → Sound slack w → Sound slack v → CallsAlike slack keeps w c d → AnswersAlike slack keeps (called slack w c) (called slack v d)
  called_alike w v c d h s s' k =
      subst (λ (z : World). Alike slack keeps w z → Sound slack z → AnswersAlike slack keeps (called slack w c) (called slack z d)) (sym (is_other slack keeps w v h))
      (λ h s'. call_alike slack keeps w v.scan.far.sum v.buffers h s s' c d k) h s'

  -- from an accepted reset on, any other blocks may be kept
  pub reset_alike_anew : (keeps' : ℕ → Type 0) (w v : World) → Alike slack keeps w v → Sound slack w → Sound slack v → Accepted slack w (deed reset)
      → AnswersAlike slack keeps' (called slack w (deed reset)) (called slack v (deed reset))
  reset_alike_anew keeps' w v h s s' a =
      subst (λ (z : World). Alike slack keeps w z → Sound slack z → AnswersAlike slack keeps' (called slack w (deed reset)) (called slack z (deed reset))) (sym (is_other slack keeps w v h))
      (λ h s'. reset_anew slack keeps w v.scan.far.sum v.buffers h s s' keeps' a) h s'

-- calls alike are made with samples of the type f32
calls_sound : (slack : ℕ) (keeps : ℕ → Type 0) (w v : World) (c d : Call) → Sound slack w → Sound slack v → CallsAlike slack keeps w c d → Sound slack (called slack w c).world × Sound slack (called slack v d).world
calls_sound slack keeps w v (far xs) (far ys) s s' k = (called_sound slack w s (far xs) k.f32, called_sound slack v s' (far ys) k.f32')
calls_sound slack keeps w v (far xs) (deed e) s s' k = absurd k
calls_sound slack keeps w v (deed d) (far ys) s s' k = absurd k
calls_sound slack keeps w v (deed d) (deed e) s s' k = rw k.0 (deeds d k.1)
  where
    deeds : (d : Deed) → DeedKept slack keeps w d → Sound slack (called slack w (deed d)).world × Sound slack (called slack v (deed d)).world
    deeds (near x index) q = (called_sound slack w s (deed (near x index)) q, called_sound slack v s' (deed (near x index)) q)
    deeds score q = (called_sound slack w s (deed score) tt, called_sound slack v s' (deed score) tt)
    deeds rearm q = (called_sound slack w s (deed rearm) tt, called_sound slack v s' (deed rearm) tt)
    deeds discard q = (called_sound slack w s (deed discard) tt, called_sound slack v s' (deed discard) tt)
    deeds reset q = (reset_sound slack w s, reset_sound slack v s')
    deeds (ask r) q = (called_sound slack w s (deed (ask r)) tt, called_sound slack v s' (deed (ask r)) tt)

-- What is kept may be other blocks in each part of a stream: `keeps p` in part p. Here are the worlds after a call in part p.
call_parts : (slack : ℕ) (keeps : ℕ → ℕ → Type 0) (p : ℕ) (w v : World) (c d : Call) → Alike slack (keeps p) w v → Sound slack w → Sound slack v → CallsAlike slack (keeps p) w c d
    → Alike slack (keeps (part_after slack w c p)) (called slack w c).world (called slack v d).world
unfolding pick
call_parts slack keeps p w v (far xs) (far ys) h s s' k = (called_alike slack (keeps p) w v (far xs) (far ys) h s s' k).world
call_parts slack keeps p w v (far xs) (deed e) h s s' k = absurd k
call_parts slack keeps p w v (deed d) (far ys) h s s' k = absurd k
call_parts slack keeps p w v (deed d) (deed e) h s s' k = rw k.0 (deeds d k.1)
  where
    same : (d : Deed) → DeedKept slack (keeps p) w d → Alike slack (keeps p) (called slack w (deed d)).world (called slack v (deed d)).world
    same d q = (called_alike slack (keeps p) w v (deed d) (deed d) h s s' (refl, q)).world

    deeds : (d : Deed) → DeedKept slack (keeps p) w d → Alike slack (keeps (part_after slack w (deed d) p)) (called slack w (deed d)).world (called slack v (deed d)).world
    deeds (near x index) q = same (near x index) q
    deeds score q = same score q
    deeds rearm q = same rearm q
    deeds discard q = same discard q
    deeds reset q =
        pick_case (λ (n : ℕ). Alike slack (keeps n) (called slack w (deed reset)).world (called slack v (deed reset)).world) (is_accepted slack w (deed reset)) (p + 1) p
        (λ t. (reset_alike_anew slack (keeps p) (keeps (p + 1)) w v h s s' (eqb-true (refusal_of (called slack w (deed reset)).response) none t)).world) (λ t. same reset q)
    deeds (ask r) q = same (ask r) q

-- two streams, which go on in part p, the second with other far samples in blocks that are not kept; calls on anything but a stream's own state and buffers count for nothing
pub data ItemsAlike (slack : ℕ) (keeps : ℕ → ℕ → Type 0) : ℕ → World → List Item → List Item → Type 0 where
  done : {p : ℕ} {w : World} → ItemsAlike slack keeps p w [] []
  calls : {p : ℕ} {w : World} {c d : Call} {items items' : List Item} → CallsAlike slack (keeps p) w c d → ItemsAlike slack keeps (part_after slack w c p) (called slack w c).world items items'
      → ItemsAlike slack keeps p w (own c ∷ items) (own d ∷ items')
  first : {p : ℕ} {w u : World} {c : Call} {items items' : List Item} → ItemsAlike slack keeps p w items items' → ItemsAlike slack keeps p w (foreign u c ∷ items) items'
  second : {p : ℕ} {w u : World} {c : Call} {items items' : List Item} → ItemsAlike slack keeps p w items items' → ItemsAlike slack keeps p w items (foreign u c ∷ items')

-- the number of the part after the items
unfoldable pub part_of : ℕ → World → ℕ → List Item → ℕ
part_of slack w p [] = p
part_of slack w p (own c ∷ items) = part_of slack (called slack w c).world (part_after slack w c p) items
part_of slack w p (foreign v c ∷ items) = part_of slack w p items

-- the same answers, and sound worlds alike
pub record StreamsAlike (slack : ℕ) (keeps : ℕ → ℕ → Type 0) (p : ℕ) (w v : World) (items items' : List Item) : Type 0 where
  pub responses : answers slack v items' ≡ answers slack w items
  pub worlds : Alike slack (keeps (part_of slack w p items)) (after slack w items) (after slack v items')
  pub sound : Sound slack (after slack w items)
  pub sound' : Sound slack (after slack v items')

-- the list law
pub streams_alike : (slack : ℕ) (keeps : ℕ → ℕ → Type 0) (p : ℕ) (w v : World) (items items' : List Item) → Alike slack (keeps p) w v → Sound slack w → Sound slack v → ItemsAlike slack keeps p w items items'
    → StreamsAlike slack keeps p w v items items'
unfolding answers after part_of
streams_alike slack keeps p w v _ _ h s s' done = record { responses = refl; worlds = h; sound = s; sound' = s' }
streams_alike slack keeps p w v _ _ h s s' (calls {c = c} {d = d} {items = items} {items' = items'} k rest) =
    let q = calls_sound slack (keeps p) w v c d s s' k in
    let r = streams_alike slack keeps (part_after slack w c p) (called slack w c).world (called slack v d).world items items' (call_parts slack keeps p w v c d h s s' k) q.0 q.1 rest in
    record {
      responses = ap₂ {A = Response} {B = List Response} (λ (a : Response) (l : List Response). a ∷ l) (called_alike slack (keeps p) w v c d h s s' k).response r.responses;
      worlds = r.worlds;
      sound = r.sound;
      sound' = r.sound';
    }
streams_alike slack keeps p w v _ _ h s s' (first rest) = let r = streams_alike slack keeps p w v _ _ h s s' rest in record { responses = r.responses; worlds = r.worlds; sound = r.sound; sound' = r.sound' }
streams_alike slack keeps p w v _ _ h s s' (second rest) = let r = streams_alike slack keeps p w v _ _ h s s' rest in record { responses = r.responses; worlds = r.worlds; sound = r.sound; sound' = r.sound' }
