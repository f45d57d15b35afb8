-- Demand 3 keeps the far blocks from a given one on: frames that begin late enough read no earlier one, so that the laws of Alike hold.
use Prim.Native.Nat.{ℕ, ◌+◌, ◌-◌, ◌*◌, ◌≤◌}
use mathlib.Core.Path.{◌≡◌, sym, ap, ap₂, ◌∙◌, refl, subst}
use mathlib.Core.List.{List, [], ◌∷◌}
use mathlib.Core.Bool.{true, false, not, true≢false}
use native.Mathlib.Nat.{le-div_iff_mul-le}
use native.Mathlib.Omega.{arith}
use lib.Dec.{T, eqb}
use lib.Ieee.{Float}
use borrow.Author.Tests.{eqb-true, ne_eqb, not-false}
use Rattle.answers.specs.Pick.{pick, pick_true, pick_case}
use Rattle.scan.specs.State.{World, finished, full, idle}
use Rattle.scan.specs.Blocks.{Seen, gather, dropped, held_at, on_grid, first_bin}
use Rattle.scan.specs.Scoring.{quiet, flat}
use Rattle.scan.specs.Calls.{Observation, FarPush, NearPush, Clearing, frame_of, window_in, is_uncovered, is_ahead, with_near_verdict, far_refusal, pushed_far, near_refusal, pushed_near, score_refusal, counted_frame, judged, scored_frame, observed, clearing, clear_refusal, rearmed, discarded}
use Rattle.scan.specs.Steps.{Deed, near, score, rearm, discard, reset, ask, Call, far, deed, Response, refusal_of, called}
use Rattle.scan.specs.Streams.{begins, FairDeed, FairCall, LateDeed, LateCall, Fair, Late, Item, own, foreign, answers, clean_answers, cleaned, as_call, clean_call}
use Rattle.scan.specs.declared.Geometry.{Geometry}
use Rattle.scan.specs.declared.Near.{Near}
use Rattle.scan.specs.declared.Verdict.{Verdict}
use Rattle.scan.proofs.Laws.{if_refused_case, holds, both_fails, both_and}
use Rattle.scan.proofs.Settings.{some, wide}
use Rattle.scan.proofs.Masked.{masked_finite, masked_f32}
use Rattle.scan.proofs.Numbered.{near_number}
use Rattle.scan.proofs.Hears.{masked_alike}
use Rattle.scan.proofs.Earlier.{call_passes}
use Rattle.scan.proofs.Held.{held_under_way, held_idle}
use Rattle.scan.proofs.Sound.{Sound}
use Rattle.scan.proofs.Accepted.{scoreable}
use Rattle.scan.proofs.Contracts.{far_step, near_step, score_step, clear_step, reset_unchanged}
use Rattle.scan.proofs.Keeps.{called_sound}
use Rattle.scan.proofs.Alike.{Alike, FrameKept, DeedKept, CallsAlike, called_alike}

-- the blocks from this one on
abbrev pub From : ℕ → ℕ → Type 0
From block j = block ≤ j

-- the frame that is under way began late enough
abbrev pub BeganLate : ℕ → World → Type 0
BeganLate block w = idle w.scan.near ≡ false → block + w.scan.geometry.span ≤ w.scan.near.first

module _ (slack block : ℕ) (w : World) (s : Sound slack w) (b : BeganLate block w) where
  abbrev g : Geometry
  g = w.scan.geometry

  -- ---- such a frame reads from the block on

  under_way : full g w.scan.near ≡ true → idle w.scan.near ≡ false
  under_way f = let e = eqb-true w.scan.near.len g.frame f in both_fails (eqb w.scan.near.count 0) (eqb w.scan.near.len 0) (ne_eqb w.scan.near.len 0 (omega (arith, wide g s.allowed)))

  frame_kept : FrameKept slack (From block) w
  frame_kept f u a j l n m = omega (arith, b (under_way f))

  -- ---- every call leaves it so

  held_late : (index : ℕ) → idle (held_at w.scan.near index) ≡ false → block + g.span ≤ (held_at w.scan.near index).first
  held_late index = held_under_way (λ (m : Near). block + g.span ≤ m.first) w.scan.near index b

  late_bin : (index : ℕ) → finished w.scan.verdict ≡ false → dropped g (held_at w.scan.near index) index ≡ false → (T (begins w.scan index) → (block + g.span) * g.decimation ≤ index)
      → block + g.span ≤ first_bin g (held_at w.scan.near index) index
  late_bin index f d late =
      let m = held_at w.scan.near index in
      pick_case (λ (z : ℕ). block + g.span ≤ z) (idle m) _ _
      (λ i. (le-div_iff_mul-le (some g s.allowed)).1 (late (holds _ (both_and _ _ (ap not f) (both_and _ _ (held_idle w.scan.near index i) (not-false (on_grid g index) (sym (pick_true (idle m) _ false i) ∙ d)))))))
      (held_late index)

  near_late : (x : Float) (index : ℕ) → LateDeed slack block w (near x index) → BeganLate block (near_step w.buffers (pushed_near w.scan w.buffers.levels x index)).world
  unfolding called pushed_near gather
  near_late x index late =
      if_refused_case P (near_refusal w.scan w.buffers.levels x index) _ _ (λ r. b)
      (λ z. pick_case P (finished w.scan.verdict) _ _ (λ f. b)
      (λ f. pick_case P (dropped g (held_at w.scan.near index) index) _ _ (λ d. held_late index)
      (λ d. let l = late_bin index f d (late ((near_number slack w x index).is ∙ z)) in
      pick_case (λ (t : Seen). idle t.near ≡ false → block + g.span ≤ t.near.first) (eqb ((held_at w.scan.near index).count + 1) g.decimation) _ _ (λ c i. l) (λ c i. l))))
    where
      P : NearPush → Type 0
      P p = BeganLate block (near_step w.buffers p).world

  scored_late : block + g.span ≤ w.scan.near.first → BeganLate block (score_step (scored_frame slack w)).world
  unfolding scored_frame judged counted_frame
  scored_late l =
      pick_case P (is_uncovered slack w) _ _ (λ t i. l)
      (λ t. pick_case P (is_ahead w) _ _ (λ u i. l) (λ u. pick_case P (quiet (window_in slack w)) _ _ (λ q i. l) (λ q. pick_case P (flat (frame_of w)) _ _ (λ e i. l) (λ e i. l))))
    where
      P : Observation → Type 0
      P p = BeganLate block (score_step p).world

  score_late : BeganLate block (score_step (observed slack w)).world
  unfolding observed
  score_late = if_refused_case (λ (p : Observation). BeganLate block (score_step p).world) (score_refusal slack w) _ _ (λ r. b) (λ z. scored_late (b (under_way (scoreable slack w z).full)))

  clear_late : (n : Near) (verdict : Verdict) → idle n ≡ true → BeganLate block (clear_step w.buffers (clearing w.scan w.buffers.lag_sums (with_near_verdict w.scan n verdict))).world
  clear_late n verdict e =
      if_refused_case (λ (p : Clearing). BeganLate block (clear_step w.buffers p).world) (clear_refusal w.scan w.buffers.lag_sums) _ _ (λ r. b) (λ z i. absurd (true≢false (sym e ∙ i)))

  far_late : (xs : List Float) → BeganLate block (far_step w.buffers (pushed_far slack w.scan w.buffers.envelope xs)).world
  unfolding pushed_far
  far_late xs = if_refused_case (λ (p : FarPush). BeganLate block (far_step w.buffers p).world) (far_refusal slack w.scan w.buffers.envelope xs) _ _ (λ r. b) (λ z. b)

  called_late : (c : Call) → FairCall slack w c → LateCall slack block w c → BeganLate block (called slack w c).world
  called_late (far xs) f l = (unfold called in far_late xs)
  called_late (deed (near x index)) f l = (unfold called in near_late x index l)
  called_late (deed score) f l = (unfold called in score_late)
  called_late (deed rearm) f l = (unfold called rearmed pick in clear_late _ _ refl)
  called_late (deed discard) f l = (unfold called discarded pick in clear_late _ _ refl)
  called_late (deed reset) f l = subst (BeganLate block) (sym (reset_unchanged slack w f)) b
  called_late (deed (ask r)) f l = (unfold called in b)

  -- ---- a call and the clean one in its place are alike

  deed_kept : (d : Deed) → FairDeed slack w d → DeedKept slack (From block) w d
  deed_kept (near x index) f = f
  deed_kept score f = frame_kept
  deed_kept rearm f = tt
  deed_kept discard f = tt
  deed_kept reset f = tt
  deed_kept (ask r) f = tt

  clean_alike : (c : Call) → FairCall slack w c → CallsAlike slack (From block) w c (as_call (clean_call (block * g.decimation) w c))
  clean_alike (far xs) f =
      let n = block * g.decimation - w.scan.far.accepted in
      record { samples = masked_alike g block (some g s.allowed) xs w.scan.far.accepted; finite = masked_finite n xs; f32 = f; f32' = masked_f32 n xs f }
  clean_alike (deed d) f = (refl, deed_kept d f)

  -- and as fair
  clean_fair : (v : World) (c : Call) → FairCall slack w c → (called slack v (as_call (clean_call (block * g.decimation) w c))).response ≡ (called slack w c).response
      → FairCall slack v (as_call (clean_call (block * g.decimation) w c))
  clean_fair v (far xs) f e = masked_f32 (block * g.decimation - w.scan.far.accepted) xs f
  clean_fair v (deed (near x index)) f e = f
  clean_fair v (deed score) f e = f
  clean_fair v (deed rearm) f e = f
  clean_fair v (deed discard) f e = f
  clean_fair v (deed reset) f e = λ z. f (ap refusal_of (sym e) ∙ z)
  clean_fair v (deed (ask r)) f e = f

-- ---- a list of calls

module _ (slack block : ℕ) where
  pub answers_alike : (known : ℕ) (items : List Item) (w v : World) → Alike slack (From block) w v → BeganLate block w → Sound slack w → Sound slack v → Fair slack w items → Late slack block w items
      → known ≡ block * w.scan.geometry.decimation → answers slack w items ≡ clean_answers slack v (cleaned slack known w items)
  unfolding answers clean_answers cleaned
  answers_alike known [] w v h b s s' f l e = refl
  answers_alike known (own c ∷ items) w v h b s s' f l e =
      subst (λ (k : ℕ). answers slack w (own c ∷ items) ≡ clean_answers slack v (cleaned slack k w (own c ∷ items))) (sym e)
      (let o = called_alike slack (From block) w v c (as_call (clean_call (block * w.scan.geometry.decimation) w c)) h s s' (clean_alike slack block w s b c f.0) in
      let fair = clean_fair slack block w s b v c f.0 o.response in
      ap₂ {A = Response} {B = List Response} (λ (a : Response) (rest : List Response). a ∷ rest) (sym o.response)
      (answers_alike (block * w.scan.geometry.decimation) items (called slack w c).world (called slack v (as_call (clean_call (block * w.scan.geometry.decimation) w c))).world o.world (called_late slack block w s b c f.0 l.0) (called_sound slack w s c f.0) (called_sound slack v s' _ fair) f.1 l.1
      (ap (λ (g : Geometry). block * g.decimation) (sym (call_passes slack w s c f.0).geometry))))
  answers_alike known (foreign u c ∷ items) w v h b s s' f l e = answers_alike known items w v h b s s' f.1 l e
