-- What a world that was lent buffers of its own lengths keeps by itself: it is sound, every length is right, no call but a bad sample or index or frame is refused.
use Prim.Native.Nat.{ℕ}
use mathlib.Core.Path.{◌≡◌, refl, sym, ap, ◌∙◌}
use mathlib.Core.Logic.{◌⊎◌, inl, inr}
use mathlib.Core.Bool.{Bool, true}
use lib.Dec.{eqb}
use lib.ListN.{length}
use borrow.Author.Tests.{eq-eqb}
use Rattle.answers.specs.Pick.{pick_true}
use Rattle.answers.specs.Refusals.{none, wrong_length}
use Rattle.folds.specs.Sums.{zeros}
use Rattle.scan.specs.Bins.{envelope_len, near_len, window_len, prefix_len, lags}
use Rattle.scan.specs.State.{Buffers, World, new_near, new_verdict, due, first_refusals}
use Rattle.scan.specs.Calls.{Clearing, Restart, all_lengths, with_near_verdict, clear_refusal, rearmed, reset_refusal, was_reset}
use Rattle.scan.specs.Steps.{near, score, rearm, discard, reset, ask, Call, far, deed, changes, step, with_lag_sums, called}
use Rattle.scan.specs.Streams.{FairCall, Lengths, lengths_of}
use Rattle.scan.specs.declared.Geometry.{Geometry}
use Rattle.answers.specs.declared.Change.TheVariants as change
use Rattle.scan.proofs.Laws.{if_refused_case, both_and}
use Rattle.scan.proofs.Sound.{Sound, first_refusals_lem}
use Rattle.scan.proofs.Accepted.{RightLengths}
use Rattle.scan.proofs.Contracts.{clear_step, reset_step}
use Rattle.scan.proofs.Keeps.{called_sound}
use Rattle.scan.proofs.Fresh.{fresh, fresh_sound}
use Rattle.scan.proofs.Earlier.{call_passes}
use Rattle.scan_panel.specs.Feeds.{TypedCall}
use Rattle.scan_panel.proofs.Rules.{SumFits, none_fits, sum_stays}

pub record Own (slack : ℕ) (w : World) : Type 0 where
  pub sound : Sound slack w
  pub lengths : RightLengths w.scan.geometry w.buffers
  pub sum : SumFits w.scan

-- a call that a stream of demand 3 may make, or a reset
pub fair_or_reset : (slack : ℕ) (w : World) (c : Call) → TypedCall c → FairCall slack w c ⊎ (c ≡ deed reset)
fair_or_reset slack w (far xs) t = inl t
fair_or_reset slack w (deed (near x index)) t = inl t
fair_or_reset slack w (deed score) t = inl t
fair_or_reset slack w (deed rearm) t = inl t
fair_or_reset slack w (deed discard) t = inl t
fair_or_reset slack w (deed reset) t = inr refl
fair_or_reset slack w (deed (ask r)) t = inl t

lengths_kept : (g h : Geometry) (b c : Buffers) → h ≡ g → lengths_of c ≡ lengths_of b → RightLengths g b → RightLengths h c
lengths_kept g h b c e l r =
    record {
      levels = ap (λ (z : Lengths). z.levels) l ∙ r.levels ∙ ap near_len (sym e);
      window = ap (λ (z : Lengths). z.window) l ∙ r.window ∙ ap window_len (sym e);
      prefix = ap (λ (z : Lengths). z.prefix) l ∙ r.prefix ∙ ap prefix_len (sym e);
      squares = ap (λ (z : Lengths). z.squares) l ∙ r.squares ∙ ap prefix_len (sym e);
      scores = ap (λ (z : Lengths). z.scores) l ∙ r.scores ∙ ap lags (sym e);
    }

module _ (slack : ℕ) (w : World) (o : Own slack w) where
  abbrev g : Geometry
  g = w.scan.geometry

  follows : g ≡ due w.scan
  follows = o.sound.allowed.follows

  -- ---- 1 to 3 refuse nothing

  pub first_none : (lengths : Bool) → lengths ≡ true → first_refusals w.scan lengths ≡ none
  first_none lengths e = first_refusals_lem slack w o.sound lengths ∙ pick_true lengths none wrong_length e

  pub envelope_right : eqb (length w.buffers.envelope) (envelope_len slack (due w.scan)) ≡ true
  envelope_right = eq-eqb _ _ (o.sound.far.length ∙ ap (envelope_len slack) follows)

  sums_right : eqb (length w.buffers.lag_sums) (lags (due w.scan)) ≡ true
  sums_right = eq-eqb _ _ (o.sound.lag_sums.length ∙ ap lags follows)

  pub levels_right : eqb (length w.buffers.levels) (near_len (due w.scan)) ≡ true
  levels_right = eq-eqb _ _ (o.lengths.levels ∙ ap near_len follows)

  pub all_right : all_lengths slack (due w.scan) w.buffers ≡ true
  all_right =
      both_and _ _ envelope_right
      (both_and _ _ levels_right
      (both_and _ _ (eq-eqb _ _ (o.lengths.window ∙ ap window_len follows))
      (both_and _ _ (eq-eqb _ _ (o.lengths.prefix ∙ ap prefix_len follows))
      (both_and _ _ (eq-eqb _ _ (o.lengths.squares ∙ ap prefix_len follows)) (both_and _ _ (eq-eqb _ _ (o.lengths.scores ∙ ap lags follows)) sums_right)))))

  clear_none : clear_refusal w.scan w.buffers.lag_sums ≡ none
  unfolding clear_refusal
  clear_none = first_none _ sums_right

  reset_none : reset_refusal slack w.scan w.buffers.envelope w.buffers.lag_sums ≡ none
  unfolding reset_refusal
  reset_none = first_none _ (both_and _ _ envelope_right sums_right)

  -- ---- a rearm and a reset are never refused

  pub rearm_is : called slack w (deed rearm) ≡ step (changes change.Done) (with_near_verdict w.scan new_near new_verdict) (with_lag_sums w.buffers (zeros (lags g)))
  unfolding called rearmed
  rearm_is =
      if_refused_case (λ (p : Clearing). clear_step w.buffers p ≡ step (changes change.Done) (with_near_verdict w.scan new_near new_verdict) (with_lag_sums w.buffers (zeros (lags g)))) (clear_refusal w.scan w.buffers.lag_sums) _ _
      (λ r. absurd (r clear_none)) (λ z. refl)

  pub reset_is : called slack w (deed reset) ≡ step (changes change.Done) (fresh slack g w.buffers).scan (fresh slack g w.buffers).buffers
  unfolding called was_reset
  reset_is =
      if_refused_case (λ (p : Restart). reset_step w.buffers p ≡ step (changes change.Done) (fresh slack g w.buffers).scan (fresh slack g w.buffers).buffers) (reset_refusal slack w.scan w.buffers.envelope w.buffers.lag_sums) _ _
      (λ r. absurd (r reset_none)) (λ z. refl)

  -- ---- every call keeps it

  own_by : (c : Call) → FairCall slack w c ⊎ (c ≡ deed reset) → Own slack (called slack w c).world
  own_by c (inl f) =
      let p = call_passes slack w o.sound c f in
      record { sound = called_sound slack w o.sound c f; lengths = lengths_kept g _ w.buffers _ p.geometry p.lengths o.lengths; sum = sum_stays slack w o.sum c }
  own_by c (inr e) = rw (e, reset_is) (record { sound = fresh_sound slack g w.buffers o.sound.allowed; lengths = lengths_kept g g w.buffers (fresh slack g w.buffers).buffers refl refl o.lengths; sum = none_fits })

  pub own_kept : (c : Call) → TypedCall c → Own slack (called slack w c).world
  own_kept c t = own_by c (fair_or_reset slack w c t)
