-- One call on two scans that agree, if it is no parting: the answers are equal, and the scans agree again.
use Prim.Native.Nat.{ℕ, ◌+◌, ◌≤◌, ◌<◌}
use mathlib.Core.Path.{◌≡◌, refl, sym, ap, ap₂, ◌∙◌, subst, subst₂}
use mathlib.Core.Logic.{◌⊎◌, inl, inr}
use mathlib.Core.List.{List}
use mathlib.Core.Bool.{Bool, true, false, false≢true}
use native.Mathlib.Nat.{eq-or-lt_of_le}
use native.Mathlib.Omega.{arith}
use lib.Dec.{eqb}
use lib.ListN.{length, set}
use lib.Seq.{get_or-set_other}
use lib.Ieee.{Float, nan}
use borrow.Author.Tests.{ltb-true, eq-eqb}
use Rattle.answers.specs.Pick.{pick, pick_true, pick_case}
use Rattle.answers.specs.Refusals.{require, before, none, no_full_frame, not_finite}
use Rattle.folds.specs.Sums.{at}
use Rattle.scan.specs.Bins.{window_len}
use Rattle.scan.specs.State.{Buffers, World, finished, full}
use Rattle.scan.specs.Blocks.{Seen, gather, hole, held_at, dropped, summed, level_of}
use Rattle.scan.specs.Scoring.{window_of, bin_at, quiet, flat}
use Rattle.scan.specs.Calls.{Observation, FarPush, NearPush, Clearing, frame_of, window_in, is_uncovered, is_ahead, with_near_verdict, far_refusal, pushed_far, near_refusal, pushed_near, taken_by, score_refusal, counted_frame, judged, scored_frame, observed, clearing, clear_refusal, rearmed, discarded}
use Rattle.scan.specs.Steps.{near, score, rearm, discard, reset, ask, Call, far, deed, Response, takes, scores, Step, step, with_lag_sums, called}
use Rattle.scan.specs.declared.Geometry.{Geometry}
use Rattle.scan.specs.declared.Near.{Near}
use Rattle.scan.specs.declared.Verdict.{Verdict}
use Rattle.scan.specs.declared.Scoring.TheVariants as scoring
use Rattle.scan.specs.declared.Frame.TheVariants as frame
use Rattle.scan.specs.declared.Taking.TheVariants as taking
use Rattle.scan.proofs.Laws.{pick_both, if_refused_both, if_refused_case, stored_alike, take_alike, table_alike}
use Rattle.scan.proofs.Settings
use Rattle.scan.proofs.Accepted.{scoreable}
use Rattle.scan.proofs.Contracts.{far_step, near_step, score_step, clear_step}
use Rattle.scan_panel_agrees.specs.Agreement.{oldest, parting, at_score, parts, Agree}
use Rattle.scan_panel.specs.Feeds.{TypedCall}
use Rattle.scan_panel_agrees.proofs.Own.{Own, first_none, levels_right, all_right, reset_is}
use Rattle.scan_panel_agrees.proofs.Always.{far_refusal_lem, far_alike_always}
use Rattle.scan_panel_agrees.proofs.Partings.{covered, Parts, partings}

-- all of `Agree` but the far sides, which `far_alike_always` is about
record Same (s t : Step) : Type 0 where
  response : t.response ≡ s.response
  near : t.world.scan.near ≡ s.world.scan.near
  verdict : t.world.scan.verdict ≡ s.world.scan.verdict
  levels : (i : ℕ) → i < s.world.scan.near.len → at t.world.buffers.levels i ≡ at s.world.buffers.levels i
  lag_sums : t.world.buffers.lag_sums ≡ s.world.buffers.lag_sums

-- the near sides
pub record SeenSame (t u : Seen) : Type 0 where
  pub near : u.near ≡ t.near
  pub levels : (i : ℕ) → i < t.near.len → at u.levels i ≡ at t.levels i

-- a sample goes into a frame whose bins so far are alike
pub gather_same : (g : Geometry) (n : Near) (l l' : List Float) → length l' ≡ length l → ((i : ℕ) → i < n.len → at l' i ≡ at l i) → (x : Float) (index : ℕ)
    → SeenSame (gather g (record { near = n; levels = l }) x index) (gather g (record { near = n; levels = l' }) x index)
unfolding gather
gather_same g n l l' e h x index =
    pick_both SeenSame (eqb (n.count + 1) g.decimation) _ _ _ _
    (λ c. record { near = refl; levels = λ j k. stored j (eq-or-lt_of_le (omega arith)) }) (λ c. record { near = refl; levels = h })
  where
    level : Float
    level = level_of g (summed n.sum x)

    stored : (j : ℕ) → (j ≡ n.len) ⊎ (j < n.len) → at (set l' n.len (level_of g (summed n.sum x))) j ≡ at (set l n.len (level_of g (summed n.sum x))) j
    stored j (inl e') = rw e' (stored_alike l' l n.len level e)
    stored j (inr k) = get_or-set_other l' n.len j level nan (omega arith) ∙ h j k ∙ sym (get_or-set_other l n.len j level nan (omega arith))

-- the near side as a sample finds it
pub held_alike : (n : Near) (l l' : List Float) → ((i : ℕ) → i < n.len → at l' i ≡ at l i) → (index i : ℕ) → i < (held_at n index).len → at l' i ≡ at l i
held_alike n l l' h index i = pick_case (λ (m : Near). i < m.len → at l' i ≡ at l i) (hole n index) _ _ (λ t k. absurd (omega arith)) (λ t k. h i k)

-- the world w with other buffers, but for the lag sums
abbrev other : World → Buffers → World
other w b = record { scan = w.scan; buffers = with_lag_sums b w.buffers.lag_sums }

-- a world that agrees is such a one
is_other : (wide narrow : ℕ) (w v : World) → Agree wide narrow w v → v ≡ other w v.buffers
is_other wide narrow w v h =
    λ i. record {
      scan = record { geometry = h.far_alike.geometry i; far = h.far_alike.far i; near = h.near i; verdict = h.verdict i };
      buffers = with_lag_sums v.buffers (h.lag_sums i);
    }

module _ (wide narrow : ℕ) (less : narrow < wide) (w : World) (b : Buffers) (h : Agree wide narrow w (other w b)) (o : Own wide w) (o' : Own narrow (other w b)) where
  abbrev g : Geometry
  g = w.scan.geometry

  abbrev v : World
  v = other w b

  some : 0 < g.frame
  some = Settings.wide g o.sound.allowed

  -- where nothing changes
  unchanged : (a : Response) → Same (step a w.scan w.buffers) (step a v.scan v.buffers)
  unchanged a = record { response = refl; near = refl; verdict = refl; levels = h.levels; lag_sums = refl }

  -- where no frame is left
  emptied : (a : Response) (n : Near) (verdict : Verdict) (before after : Buffers) → n.len ≡ 0 → after.lag_sums ≡ before.lag_sums
      → Same (step a (with_near_verdict w.scan n verdict) before) (step a (with_near_verdict v.scan n verdict) after)
  emptied a n verdict before after z l = record { response = refl; near = refl; verdict = refl; levels = λ i k. absurd (omega arith); lag_sums = l }

  -- ---- far samples

  far_same : (xs : List Float) → Same (far_step w.buffers (pushed_far wide w.scan w.buffers.envelope xs)) (far_step v.buffers (pushed_far narrow v.scan b.envelope xs))
  unfolding pushed_far
  far_same xs =
      rw (far_refusal_lem wide narrow less w v h.far_alike o o' xs)
      (if_refused_both (λ (p q : FarPush). Same (far_step w.buffers p) (far_step v.buffers q)) (far_refusal wide w.scan w.buffers.envelope xs) _ _ _ _ (unchanged _)
      (λ z. record { response = refl; near = refl; verdict = refl; levels = h.levels; lag_sums = refl }))

  -- ---- near samples

  near_refusal_lem : (x : Float) (index : ℕ) → near_refusal v.scan b.levels x index ≡ near_refusal w.scan w.buffers.levels x index
  unfolding near_refusal
  near_refusal_lem x index = let e = levels_right wide w o in let e' = levels_right narrow v o' in cc

  lengths : length b.levels ≡ length w.buffers.levels
  lengths = o'.lengths.levels ∙ sym o.lengths.levels

  near_same : (x : Float) (index : ℕ) → Same (near_step w.buffers (pushed_near w.scan w.buffers.levels x index)) (near_step v.buffers (pushed_near v.scan b.levels x index))
  unfolding pushed_near
  near_same x index =
      rw (near_refusal_lem x index)
      (if_refused_both P (near_refusal w.scan w.buffers.levels x index) _ _ _ _ (unchanged _)
      (λ z. pick_both P (finished w.scan.verdict) _ _ _ _ (λ f. unchanged _)
      (λ f. pick_both P (dropped g (held_at w.scan.near index) index) _ _ _ _
      (λ d. record { response = refl; near = refl; verdict = refl; levels = held_alike w.scan.near w.buffers.levels b.levels h.levels index; lag_sums = refl })
      (λ d. taken _ _ (gather_same g (held_at w.scan.near index) w.buffers.levels b.levels lengths (held_alike w.scan.near w.buffers.levels b.levels h.levels index) x index)))))
    where
      P : NearPush → NearPush → Type 0
      P p q = Same (near_step w.buffers p) (near_step v.buffers q)

      taken : (t u : Seen) → SeenSame t u → P (taken_by w.scan t) (taken_by v.scan u)
      taken t u k = record { response = ap (λ (n : Near). takes (pick (full g n) taking.Full taking.Taken)) k.near; near = k.near; verdict = refl; levels = k.levels; lag_sums = refl }

  -- ---- a full frame that is no parting: its levels and its window are the same

  frame_same : frame_of v ≡ frame_of w
  frame_same = take_alike b.levels w.buffers.levels w.scan.near.len (o'.lengths.levels ∙ sym o.lengths.levels) h.levels

  bin_same : (j : ℕ) → oldest narrow w ≤ j → bin_at narrow g w.scan.far.next b.envelope j ≡ bin_at wide g w.scan.far.next w.buffers.envelope j
  bin_same j c = pick_both (λ (x y : Float). x ≡ y) _ _ _ _ _ (λ t. h.far_alike.bins j (ltb-true j w.scan.far.next t) c) (λ t. refl)

  window_same : is_uncovered narrow w ≡ false → window_in narrow v ≡ window_in wide w
  unfolding window_of
  window_same u = table_alike _ _ (window_len g) (λ i l. bin_same _ (omega (arith, (covered narrow w u).keeps)))

  -- the frame is uncovered by both or by neither
  module _ (n : full g w.scan.near ≡ true → is_uncovered narrow w ≡ is_uncovered wide w) where
    score_refusal_lem : score_refusal narrow v ≡ score_refusal wide w
    unfolding score_refusal
    score_refusal_lem =
        ap₂ {A = ℕ} {B = ℕ} (λ (m k : ℕ). before m k) (first_none narrow v o' _ (all_right narrow v o') ∙ sym (first_none wide w o _ (all_right wide w o)))
        (pick_both (λ (m k : ℕ). m ≡ k) (full g w.scan.near) _ _ _ _
        (λ f. ap (λ (z : Bool). require z not_finite none)
        (rw (n f)
        (pick_both (λ (x y : Bool). x ≡ y) (is_uncovered wide w) _ _ _ _ (λ u. refl) (λ u. let p = frame_same in let q = window_same (n f ∙ u) in cc)))) (λ f. refl))

    abbrev Scored : Observation → Observation → Type 0
    Scored p q = Same (score_step p) (score_step q)

    judged_same : (levels window : List Float) → Scored (judged w levels window) (judged v levels window)
    unfolding judged counted_frame
    judged_same levels window =
        pick_both Scored (quiet window) _ _ _ _ (λ t. emptied _ _ _ _ _ refl refl)
        (λ t. pick_both Scored (flat levels) _ _ _ _ (λ u. emptied _ _ _ _ _ refl refl)
        (λ u. emptied _ _ _ _ _ refl refl))

    score_same : Scored (observed wide w) (observed narrow v)
    unfolding observed scored_frame
    score_same =
        rw score_refusal_lem
        (if_refused_both Scored (score_refusal wide w) _ _ _ _ (unchanged _)
        (λ z. let c = n (scoreable wide w z).full in
        rw c
        (pick_both Scored (is_uncovered wide w) _ _ _ _ (λ u. emptied _ _ _ _ _ refl refl)
        (λ u. pick_both Scored (is_ahead w) _ _ _ _ (λ t. emptied _ _ _ _ _ refl refl)
        (λ t. rw (frame_same, window_same (c ∙ u)) (judged_same (frame_of w) (window_in wide w)))))))

  -- ---- rearm, discard

  clear_same : (n : Near) (verdict : Verdict) → n.len ≡ 0
      → Same (clear_step w.buffers (clearing w.scan w.buffers.lag_sums (with_near_verdict w.scan n verdict))) (clear_step v.buffers (clearing v.scan w.buffers.lag_sums (with_near_verdict v.scan n verdict)))
  clear_same n verdict z =
      if_refused_both (λ (p q : Clearing). Same (clear_step w.buffers p) (clear_step v.buffers q)) (clear_refusal w.scan w.buffers.lag_sums) _ _ _ _ (unchanged _)
      (λ c. emptied _ n verdict _ _ z refl)

  reset_same : Same (called wide w (deed reset)) (called narrow v (deed reset))
  reset_same = subst₂ Same (sym (reset_is wide w o)) (sym (reset_is narrow v o')) (record { response = refl; near = refl; verdict = refl; levels = λ i l. absurd (omega arith); lag_sums = refl })

  -- ---- every call

  same : (test : World → Bool) → Parts wide narrow test → (c : Call) → at_score test w c ≡ false → Same (called wide w c) (called narrow v c)
  same test p (far xs) n = (unfold called in far_same xs)
  same test p (deed (near x index)) n = (unfold called in near_same x index)
  same test p (deed score) n = (unfold called in score_same (λ f. p.elsewhere w some f n))
  same test p (deed rearm) n = (unfold called rearmed in clear_same _ _ refl)
  same test p (deed discard) n = (unfold called discarded in clear_same _ _ refl)
  same test p (deed reset) n = reset_same
  same test p (deed (ask r)) n = (unfold called in unchanged _)

  -- ---- a parting

  uncovers : full g w.scan.near ≡ true → is_uncovered narrow w ≡ true → (called narrow v (deed score)).response ≡ scores (scoring.Frame frame.Uncovered 0)
  unfolding called observed scored_frame score_refusal
  uncovers f u =
      let e = first_none narrow v o' _ (all_right narrow v o') in
      let z : score_refusal narrow v ≡ none =
      pick_true _ _ _ (eq-eqb _ none e) ∙ pick_true (full g w.scan.near) _ no_full_frame f ∙ pick_true _ none not_finite (pick_true (is_uncovered narrow w) true _ u) in
      if_refused_case (λ (q : Observation). scores q.scored.answer ≡ scores (scoring.Frame frame.Uncovered 0)) (score_refusal narrow v) _ _ (λ r. absurd (r z))
      (λ z. ap (λ (q : Observation). scores q.scored.answer) (pick_true (is_uncovered narrow w) _ _ u))

-- ---- any two worlds

module _ (wide narrow : ℕ) (less : narrow < wide) (w v : World) (h : Agree wide narrow w v) (o : Own wide w) (o' : Own narrow v) where
  by_other : (P : World → Type 0) → ((b : Buffers) → Agree wide narrow w (other w b) → Own narrow (other w b) → P (other w b)) → P v
  by_other P f =
      subst (λ (z : World). Agree wide narrow w z → Own narrow z → P z) (sym (is_other wide narrow w v h)) (f v.buffers) h o'

  -- one call: equal answers, and the two agree again
  pub record Agreed (c : Call) : Type 0 where
    pub response : (called narrow v c).response ≡ (called wide w c).response
    pub agree : Agree wide narrow (called wide w c).world (called narrow v c).world

  module _ (test : World → Bool) (p : Parts wide narrow test) where
    -- if it is no parting
    pub agrees_by : (c : Call) → TypedCall c → at_score test w c ≡ false → Agreed c
    agrees_by c t n =
        let s : Same (called wide w c) (called narrow v c) = by_other (λ (z : World). Same (called wide w c) (called narrow z c)) (λ b k q. same wide narrow less w b k o q test p c n) in
        record {
          response = s.response;
          agree = record { far_alike = far_alike_always wide narrow less w v h.far_alike o o' c t; near = s.near; verdict = s.verdict; levels = s.levels; lag_sums = s.lag_sums };
        }

    -- at one the narrow scan says uncovered
    pub uncovered_by : (c : Call) → at_score test w c ≡ true → (called narrow v c).response ≡ scores (scoring.Frame frame.Uncovered 0)
    uncovered_by (far xs) e = absurd (false≢true e)
    uncovered_by (deed (near x index)) e = absurd (false≢true e)
    uncovered_by (deed score) e = by_other (λ (z : World). (called narrow z (deed score)).response ≡ scores (scoring.Frame frame.Uncovered 0)) (λ b k q. uncovers wide narrow less w b k o q (p.here w e).0 (p.here w e).1)
    uncovered_by (deed rearm) e = absurd (false≢true e)
    uncovered_by (deed discard) e = absurd (false≢true e)
    uncovered_by (deed reset) e = absurd (false≢true e)
    uncovered_by (deed (ask r)) e = absurd (false≢true e)

  -- the same for the paper's partings
  pub agrees_on : (c : Call) → TypedCall c → parts wide narrow w c ≡ false → Agreed c
  agrees_on = agrees_by (parting wide narrow) (partings wide narrow less)

  pub parted_uncovered : (c : Call) → parts wide narrow w c ≡ true → (called narrow v c).response ≡ scores (scoring.Frame frame.Uncovered 0)
  parted_uncovered = uncovered_by (parting wide narrow) (partings wide narrow less)
