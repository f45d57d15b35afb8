-- What an entry's turn comes to, kind by kind.
use Rattle.std.specs.Prelude.{Option, Some, None}
use Rattle.recording.specs.declared.Used.{Used}
use Prim.Native.Nat.{ℕ, zero, suc, ◌+◌, ◌≤◌}
use mathlib.Core.Path.{◌≡◌, refl, ap, ◌∙◌}
use mathlib.Core.Bool.{true, false}
use native.Mathlib.Omega.{arith}
use lib.ListN.{length}
use borrow.Author.Tests.{leb-true}
use Rattle.answers.specs.Pick.{pick, pick_true, pick_false}
use Rattle.answers.proofs.Passed.{both_true}
use Rattle.units.specs.Units.{samples}
use Rattle.units.specs.declared.Samples.{Samples}
use Rattle.scan.specs.Bins.{full_slack}
use Rattle.scan.specs.State.{Buffers}
use Rattle.scan.specs.Calls.{pushed_far, rearmed, discarded, FarPush, Clearing}
use Rattle.scan.specs.Steps.{with_envelope, with_lag_sums}
use Rattle.log_lines.specs.declared.Line.TheVariants as line
use Rattle.recording.specs.Samples.{bytes_of, samples_in, used_up, admitted}
use Rattle.recording.specs.declared.Form.{Form}
use Rattle.recording.specs.declared.Header.{Header}
use Rattle.recording.specs.declared.Event.TheVariants as event
use Rattle.tracker.specs.Tracker.{seamed}
use Rattle.tracker.specs.Cycle.{cycled}
use Rattle.tracker.specs.declared.Outcome.{Outcome}
use Rattle.tracker.specs.declared.Outcome.TheVariants as outcome
use Rattle.replay.specs.Words.{change_lines, cycle_line, cycles_after}
use Rattle.replay.specs.Events.{with_scan, with_used, with_tracker, after_admission, near_played, cycle_played, seam_played, event_played, stepped}
use Rattle.replay.specs.declared.Session.{Session}
use Rattle.replay_stream.specs.Stream.{Piece, Hand, Next, bytes_used, next, waits, told, midway, FarSamples, NearSamples, handed, entered, entry_turn}
use Rattle.replay_stream.specs.declared.Stage.TheVariants.{Events, Midway, Closed}
use Rattle.replay_stream.specs.declared.Input.TheVariants.{FarSide, NearSide}
use Rattle.replay_stream.specs.declared.Answer.TheVariants.{Says, Silent}
use Rattle.replay_entry.specs.Supplies.{supply_of}
use Rattle.replay_entry.specs.declared.Supply.TheVariants as supply
use Rattle.replay_entry.proofs.Supplying.{of_awaited, of_at_hand, of_lacking}

pub midway_some : (e index n : ℕ) → (n ≡ 0 → ⊥) → Midway e index n ≡ midway e index n
midway_some e index zero h = absurd (h refl)
midway_some e index (suc n) h = refl

-- samples that are at hand are within the total
pub supply_there : (form : Form) (used total count : ℕ) (p : Piece) → supply_of form used total count p ≡ supply.AtHand → (used + count ≤ total) × (bytes_of form count ≤ length p.bytes)
unfolding supply_of
supply_there form used total count p q =
    let w = both_true _ _ (of_at_hand _ _ q).1 in
    (leb-true _ _ w.0, omega (arith, leb-true (bytes_of form (used + count)) (bytes_of form used + length p.bytes) w.1))

module _ (h : Header) (n : ℕ) (s : Session) (b : Buffers) (hand : Hand) where
  abbrev bad : Next
  bad = next n Closed s b (Says (line.BadEvent n)) (bytes_used 0 0 0)

  pub bad_is : entry_turn h n s b hand None ≡ bad
  unfolding entry_turn stepped pick
  bad_is = refl

  -- ---- a far event

  module _ (count : ℕ) where
    abbrev far_entry : Next
    far_entry = entry_turn h n s b hand (Some (event.Far count))

    abbrev push : FarPush
    push = pushed_far full_slack s.scan b.envelope (samples_in h.form hand.far.bytes count)

    abbrev far : Option Used → Next
    far a = entered h.form n s (FarSamples count) (after_admission n s b (event.Far count) (samples_in h.form hand.far.bytes count) a)

    pub far_awaited : supply_of h.form s.used.far h.far count hand.far ≡ supply.Awaited → far_entry ≡ waits n Events s b FarSide
    unfolding entry_turn supply_of
    far_awaited q = pick_true _ _ _ (of_awaited _ _ q)

    pub far_lacking : supply_of h.form s.used.far h.far count hand.far ≡ supply.Lacking → far_entry ≡ bad
    unfolding entry_turn stepped admitted supply_of
    far_lacking q =
        let w = of_lacking _ _ q in
        pick_false _ _ _ w.0 ∙ ap far (pick_false _ _ _ w.1) ∙ pick_true true _ _ refl

    pub far_pushed : supply_of h.form s.used.far h.far count hand.far ≡ supply.AtHand → far_entry
        ≡ next (n + 1) Events (with_scan (with_used s (used_up (s.used.far + count) s.used.near)) push.changed.scan) (with_envelope b push.envelope) (told (change_lines n push.changed.answer)) (bytes_used 16 (bytes_of h.form count) 0)
    unfolding entry_turn stepped admitted event_played supply_of
    far_pushed q =
        let w = of_at_hand _ _ q in
        pick_false _ _ _ w.0 ∙ ap far (pick_true _ _ _ w.1) ∙ pick_false false _ _ refl

  -- ---- a near event

  module _ (count first : ℕ) where
    abbrev near_entry : Next
    near_entry = entry_turn h n s b hand (Some (event.Near count first))

    abbrev near : Option Used → Next
    near a = entered h.form n s (NearSamples count first) (after_admission n s b (event.Near count first) (handed h.form hand (NearSamples count first)) a)

    pub near_awaited : supply_of h.form s.used.near h.near count hand.near ≡ supply.Awaited → near_entry ≡ waits n Events s b NearSide
    unfolding entry_turn supply_of
    near_awaited q = pick_true _ _ _ (of_awaited _ _ q)

    pub near_lacking : supply_of h.form s.used.near h.near count hand.near ≡ supply.Lacking → near_entry ≡ bad
    unfolding entry_turn stepped admitted supply_of
    near_lacking q =
        let w = of_lacking _ _ q in
        pick_false _ _ _ w.0 ∙ ap near (pick_false _ _ _ w.1) ∙ pick_true true _ _ refl

    pub near_entered : supply_of h.form s.used.near h.near count hand.near ≡ supply.AtHand
        → near_entry ≡ next (n + 1) (midway n first count) (with_used s (used_up s.used.far (s.used.near + count))) b Silent (bytes_used 16 0 0)
    unfolding entry_turn stepped admitted event_played near_played supply_of
    near_entered q =
        let w = of_at_hand _ _ q in
        pick_false _ _ _ w.0 ∙ ap near (pick_true _ _ _ w.1) ∙ pick_false false _ _ refl

  -- ---- events without samples

  abbrev cleared : Clearing → Next
  cleared p = next (n + 1) Events (with_scan (with_used s s.used) p.changed.scan) (with_lag_sums b p.lag_sums) (told (change_lines n p.changed.answer)) (bytes_used 16 0 0)

  pub rearm_is : entry_turn h n s b hand (Some event.Rearm) ≡ cleared (rearmed s.scan b.lag_sums)
  unfolding entry_turn stepped admitted event_played pick
  rearm_is = refl

  pub discard_is : entry_turn h n s b hand (Some event.DiscardNear) ≡ cleared (discarded s.scan b.lag_sums)
  unfolding entry_turn stepped admitted event_played pick
  discard_is = refl

  abbrev cycles : Samples → Outcome → Next
  cycles alignment o =
      let c = cycled s.tracker alignment o in
      next (n + 1) Events (with_tracker (with_used s s.used) c.tracker (cycles_after s.cycles c.verdict)) b (Says (cycle_line n s.cycles c.verdict)) (bytes_used 16 0 0)

  pub unconfident_is : entry_turn h n s b hand (Some event.Unconfident) ≡ cycles (samples 0) outcome.Unconfident
  unfolding entry_turn stepped admitted event_played cycle_played pick
  unconfident_is = refl

  pub interior_is : (alignment delay : ℕ) → entry_turn h n s b hand (Some (event.Interior alignment delay)) ≡ cycles (samples alignment) (outcome.Candidate (samples delay) true)
  unfolding entry_turn stepped admitted event_played cycle_played pick
  interior_is alignment delay = refl

  pub edge_is : (alignment delay : ℕ) → entry_turn h n s b hand (Some (event.Edge alignment delay)) ≡ cycles (samples alignment) (outcome.Candidate (samples delay) false)
  unfolding entry_turn stepped admitted event_played cycle_played pick
  edge_is alignment delay = refl

  pub seam_is : entry_turn h n s b hand (Some event.Discontinuity)
      ≡ next (n + 1) Events (with_tracker (with_used s s.used) (seamed s.tracker).tracker s.cycles) b (told (change_lines n (seamed s.tracker).answer)) (bytes_used 16 0 0)
  unfolding entry_turn stepped admitted event_played seam_played pick
  seam_is = refl
