-- SPECIFICATION 10, and `on_cycle` of track.rs: one concluded cycle, case by case and in its order.
use Rattle.std.specs.Prelude.{ℕ, ◌-◌, Bool, true, false, ltb, leb, Option, None, Some}
use Rattle.answers.specs.Numbers.{limit, apart, next_count}
use Rattle.answers.specs.Pick.{pick, either}
use Rattle.answers.specs.Refusals.{none, too_large, require, before, if_refused}
use Rattle.units.specs.declared.Samples.{Samples}
use Rattle.units.specs.Units.{samples}
use Rattle.tracker.specs.declared.Outcome.{Outcome}
use Rattle.tracker.specs.declared.Outcome.TheVariants.{Candidate, Unconfident}
use Rattle.tracker.specs.declared.Trigger.{Trigger}
use Rattle.tracker.specs.declared.Trigger.TheVariants.{Edge, Lost, Jump, Seam}
use Rattle.tracker.specs.declared.Verdict.{Verdict}
use Rattle.tracker.specs.declared.Verdict.TheVariants.{Refused, Hold, Move, Reacquire}
use Rattle.tracker.specs.declared.Tracker.{Tracker}
use Rattle.tracker.specs.declared.Cycled.{Cycled}
use Rattle.tracker.specs.Tracker.{present, state_refusal, evidence}

abbrev pub cycle : Tracker → Verdict → Cycled
cycle t v = record { tracker = t; verdict = v }

-- A run that reaches its limit asks to reacquire.
abbrev pub at_limit : ℕ → ℕ → Trigger → Verdict
at_limit run most trigger = pick (leb most run) (Reacquire trigger) Hold

-- ---- an unconfident cycle

-- The cycle counts, and clears nothing. A suspect lock is lost sooner.
unfoldable pub unconfident_cycle : Tracker → Cycled
unconfident_cycle t =
    cycle (evidence t t.pending t.prev t.edges t.jumps (next_count t.unconfident) t.suspect)
    (pick t.suspect (at_limit (next_count t.unconfident) 4 Seam) (at_limit (next_count t.unconfident) 8 Lost))

-- ---- a candidate pinned to an edge

-- The candidate adds only to its own run, and is not compared with interior ones.
unfoldable pub edge_cycle : Tracker → Cycled
edge_cycle t =
    cycle (evidence t None None (next_count t.edges) t.jumps 0 t.suspect)
    (at_limit (next_count t.edges) 3 Edge)

-- ---- an interior candidate

abbrev pub delay_at : ℕ → Option Samples
delay_at delay = Some (samples delay)

abbrev pub farther_than : ℕ → Option Samples → ℕ → Bool
farther_than far None delay = false
farther_than far (Some p) delay = ltb far (apart delay p.0)

abbrev pub as_near_as : ℕ → Option Samples → ℕ → Bool
as_near_as near None delay = false
as_near_as near (Some p) delay = leb (apart delay p.0) near

-- The jump test compares consecutive candidates with each other, not with the alignment.
unfoldable pub jumped : Tracker → ℕ → Bool
jumped t delay = farther_than t.bands.apart t.prev delay

-- Earlier than the alignment by more than the late band, or later by more than the early band. One of the two differences is 0.
unfoldable pub outside_bands : Tracker → ℕ → ℕ → Bool
outside_bands t alignment delay = either (ltb t.bands.late (alignment - delay)) (ltb t.bands.early (delay - alignment))

-- Tells whether the candidate confirms the pending move.
unfoldable pub confirmed : Tracker → ℕ → Bool
confirmed t delay = as_near_as t.bands.agree t.pending delay

-- A correction toward an earlier delay lands with a lead.
unfoldable pub landing : Tracker → ℕ → ℕ → ℕ
landing t alignment delay = pick (ltb delay alignment) (delay - t.bands.lead) delay

-- A candidate that replaces the pending one instead of confirming it counts as a contradiction, as a jump does.
unfoldable pub contradicts : Tracker → ℕ → Bool
contradicts t delay = either (jumped t delay) (present t.pending)

abbrev pub with_jumps : Tracker → ℕ → Tracker
with_jumps t run = evidence t t.pending t.prev t.edges run t.unconfident t.suspect

-- Each contradicting cycle takes one step of escalation. The run goes back to 0 when a cycle agrees with the one before it.
unfoldable pub escalated : Tracker → Bool → Bool → Cycled
escalated t contradicted hadPrev =
    pick contradicted
    (cycle (with_jumps t (next_count t.jumps)) (at_limit (next_count t.jumps) 4 Jump))
    (cycle (with_jumps t (pick hadPrev 0 t.jumps)) Hold)

-- Outside the bands the tracker moves, once a second cycle confirms the candidate.
unfoldable pub outside_cycle : Tracker → ℕ → ℕ → Cycled
outside_cycle t alignment delay =
    pick (confirmed t delay)
    (cycle (evidence t None (delay_at delay) 0 0 0 false) (Move (samples (landing t alignment delay))))
    (escalated (evidence t (delay_at delay) (delay_at delay) 0 t.jumps 0 t.suspect) (contradicts t delay) (present t.prev))

-- Inside the bands the alignment is confirmed again.
unfoldable pub interior_cycle : Tracker → ℕ → ℕ → Cycled
interior_cycle t alignment delay =
    pick (outside_bands t alignment delay)
    (outside_cycle t alignment delay)
    (escalated (evidence t None (delay_at delay) 0 t.jumps 0 false) (jumped t delay) (present t.prev))

-- ---- the call

unfoldable pub judged : Tracker → Samples → Outcome → Cycled
judged t alignment Unconfident = unconfident_cycle t
judged t alignment (Candidate delay interior) = pick interior (interior_cycle t alignment.0 delay.0) (edge_cycle t)

abbrev pub delay_below_limit : Outcome → Bool
delay_below_limit Unconfident = true
delay_below_limit (Candidate delay interior) = ltb delay.0 limit

-- Refuses an alignment or a delay that is too large.
unfoldable pub cycle_refusal : Tracker → Samples → Outcome → ℕ
cycle_refusal t alignment outcome =
    before (state_refusal t)
    (require (ltb alignment.0 limit) too_large
    (require (delay_below_limit outcome) too_large
    none))

-- `on_cycle`.
unfoldable pub cycled : Tracker → Samples → Outcome → Cycled
cycled t alignment outcome =
    if_refused (cycle_refusal t alignment outcome)
    (cycle t (Refused (cycle_refusal t alignment outcome)))
    (judged t alignment outcome)
