-- SPECIFICATION 10, and track.rs: the tracker's state and its rules, and every call but `on_cycle`.
use Rattle.std.specs.Prelude.{ℕ, ◌*◌, ◌/◌, max, Bool, true, false, not, ltb, leb, eqb, Option, None, Some, is_some}
use Rattle.answers.specs.declared.Change.TheVariants as change
use Rattle.answers.specs.declared.Count.{Count}
use Rattle.answers.specs.declared.Flag.{Flag}
use Rattle.answers.specs.Answers.{counted, flagged}
use Rattle.answers.specs.Numbers.{limit, allowed_rate}
use Rattle.answers.specs.Pick.{pick, both, either}
use Rattle.answers.specs.Refusals.{none, outside_table, broken_state, inconsistent_record, require, if_refused}
use Rattle.units.specs.declared.Samples.{Samples}
use Rattle.tracker.specs.declared.Bands.{Bands}
use Rattle.tracker.specs.declared.Tracker.{Tracker}
use Rattle.tracker.specs.declared.Changed.{Changed}

-- ---- delays and bands

abbrev pub present : Option Samples → Bool
present = is_some

abbrev pub below_limit : Option Samples → Bool
below_limit None = true
below_limit (Some d) = ltb d.0 limit

-- Gives ms x rate / 1000, but at least 1.
abbrev pub per_ms : ℕ → ℕ → ℕ
per_ms ms rate = max 1 (ms * rate / 1000)

-- The bands come from the millisecond figures 4, 48, 24, 100 and 8.
unfoldable pub bands_of : ℕ → Bands
bands_of rate =
    record { late = per_ms 4 rate; early = per_ms 48 rate; agree = per_ms 24 rate; apart = per_ms 100 rate; lead = per_ms 8 rate }

unfoldable pub same_bands : Bands → Bands → Bool
same_bands a b =
    both (eqb a.late b.late)
    (both (eqb a.early b.early)
    (both (eqb a.agree b.agree)
    (both (eqb a.apart b.apart)
    (eqb a.lead b.lead))))

-- ---- the state rules

-- A tracker's bands follow from its rate. Its pending and previous delays are below 2^62. Its largest contradiction run is not below the current one.
unfoldable pub state_refusal : Tracker → ℕ
state_refusal t =
    require (allowed_rate t.rate) outside_table
    (require (same_bands t.bands (bands_of t.rate)) broken_state
    (require (below_limit t.pending) broken_state
    (require (below_limit t.prev) broken_state
    (require (leb t.jumps t.largest) inconsistent_record
    none))))

-- Gives the tracker and the answer of a call that may change it.
unfoldable pub changed : Tracker → ℕ → Tracker → Changed
changed given refusal next =
    if_refused refusal
    (record { tracker = given; answer = change.Refused refusal })
    (record { tracker = next; answer = change.Done })

-- ---- the calls

unfoldable pub fresh : ℕ → Tracker
fresh rate =
    record { rate = rate; bands = bands_of rate; pending = None; prev = None; edges = 0; jumps = 0; unconfident = 0; suspect = false; largest = 0 }

-- A refused making returns the tracker for rate 8,000.
unfoldable pub made : ℕ → Changed
made rate =
    pick (allowed_rate rate)
    (record { tracker = fresh rate; answer = change.Done })
    (record { tracker = fresh 8000; answer = change.Refused outside_table })

-- Gives the same tracker other evidence. Whatever happens, the largest contradiction run stays or grows with the run.
abbrev pub evidence : Tracker → Option Samples → Option Samples → ℕ → ℕ → ℕ → Bool → Tracker
evidence t pending prev edges jumps unconfident suspect =
    record { rate = t.rate; bands = t.bands; pending = pending; prev = prev; edges = edges; jumps = jumps; unconfident = unconfident; suspect = suspect; largest = max t.largest jumps }

-- `on_discontinuity`.
abbrev pub seamed : Tracker → Changed
seamed t = changed t (state_refusal t) (evidence t None None 0 0 0 true)

abbrev pub jump_cycles : Tracker → Count
jump_cycles t = counted (state_refusal t) t.jumps

-- Tells the largest contradiction run since the making.
abbrev pub longest_run : Tracker → Count
longest_run t = counted (state_refusal t) t.largest

abbrev pub suspected : Tracker → Flag
suspected t = flagged (state_refusal t) t.suspect

-- Something awaits a confirming cycle, a run is not 0, or there is suspicion.
unfoldable pub unfinished : Tracker → Bool
unfinished t =
    either (present t.pending)
    (either (not (eqb t.edges 0))
    (either (not (eqb t.jumps 0))
    (either (not (eqb t.unconfident 0))
    t.suspect)))

abbrev pub quiescent : Tracker → Flag
quiescent t = flagged (state_refusal t) (not (unfinished t))
