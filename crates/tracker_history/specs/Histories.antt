-- Request m: "The service desk wants to explain each reacquire from the cycle history alone." This page says what a history is, and has the request's words as functions on
-- it. Each looks back from the latest happening, as one would by hand. Only `tracker_after` and `Accepted` know of a tracker; the words use nothing of it but the bands,
-- which follow from the rate. specs/Sentences has the request's own sentences, and proofs/Sentences proves that each word means its sentence.
use Rattle.std.specs.Prelude.{ℕ, ◌+◌, ◌-◌, ◌≡◌, Bool, true, false, not, List, [], ◌∷◌, ltb, Option, None, Some}
use Rattle.answers.specs.declared.Change.TheVariants.{Done}
use Rattle.answers.specs.Numbers.{limit}
use Rattle.answers.specs.Pick.{pick, both, either}
use Rattle.units.specs.declared.Samples.{Samples}
use Rattle.tracker.specs.declared.Outcome.{Outcome}
use Rattle.tracker.specs.declared.Outcome.TheVariants.{Candidate, Unconfident}
use Rattle.tracker.specs.declared.Verdict.{Verdict}
use Rattle.tracker.specs.declared.Verdict.TheVariants.{Refused}
use Rattle.tracker.specs.declared.Tracker.{Tracker}
use Rattle.tracker.specs.Tracker.{bands_of, made, seamed}
use Rattle.tracker.specs.Cycle.{as_near_as, delay_below_limit, cycled}

-- ---- histories

-- A happening is a concluded cycle, with the alignment that it was judged against, or a discontinuity.
pub data Happening : Type 0 where
  cycle : Samples → Outcome → Happening
  discontinuity : Happening

-- The latest happening comes first.
abbrev pub History : Type 0
History = List Happening

-- ---- candidates

-- "outside the bands": earlier than the alignment by more than the late band, or later by more than the early band
unfoldable pub outside : ℕ → Samples → Samples → Bool
outside rate alignment delay =
    either (ltb (bands_of rate).late (alignment.0 - delay.0)) (ltb (bands_of rate).early (delay.0 - alignment.0))

-- "within the agreement distance of a pending delay": never, if none is pending
unfoldable pub agrees : ℕ → Option Samples → Samples → Bool
agrees rate pending delay = as_near_as (bands_of rate).agree pending delay.0

-- An interior candidate outside the bands confirms the pending delay if it agrees with it.
abbrev pub confirms : ℕ → Option Samples → Samples → Samples → Bool
confirms rate pending alignment delay = both (outside rate alignment delay) (agrees rate pending delay)

-- An interior candidate leaves itself pending, unless it confirmed a move or is inside the bands.
abbrev pub leaves_pending : ℕ → Option Samples → Samples → Samples → Option Samples
leaves_pending rate pending alignment delay =
    pick (confirms rate pending alignment delay) None (pick (outside rate alignment delay) (Some delay) None)

-- ---- the words

-- Counts the unconfident cycles that end the history, with nothing else between them: "a run of .. unconfident cycles with no discontinuity inside it"
unfoldable pub unconfident_run : History → ℕ
unconfident_run [] = 0
unconfident_run (cycle a Unconfident ∷ h) = unconfident_run h + 1
unconfident_run (cycle a (Candidate d i) ∷ h) = 0
unconfident_run (discontinuity ∷ h) = 0

-- Counts the edge candidates "since the last interior candidate or discontinuity, unconfident cycles between them not counting"
unfoldable pub edges_since : History → ℕ
edges_since [] = 0
edges_since (cycle a Unconfident ∷ h) = edges_since h
edges_since (cycle a (Candidate d true) ∷ h) = 0
edges_since (cycle a (Candidate d false) ∷ h) = edges_since h + 1
edges_since (discontinuity ∷ h) = 0

-- "a pending delay, which is that of the latest earlier interior candidate outside the bands, with no move then or since and no edge candidate, candidate inside the
-- bands or discontinuity since"
unfoldable pub pending_in : ℕ → History → Option Samples
pending_in rate [] = None
pending_in rate (cycle a Unconfident ∷ h) = pending_in rate h
pending_in rate (cycle a (Candidate d true) ∷ h) = leaves_pending rate (pending_in rate h) a d
pending_in rate (cycle a (Candidate d false) ∷ h) = None
pending_in rate (discontinuity ∷ h) = None

-- The cycle moves: "the candidate is interior, outside the bands and within the agreement distance of a pending delay"
unfoldable pub moves : ℕ → History → Samples → Outcome → Bool
moves rate h a Unconfident = false
moves rate h a (Candidate d true) = confirms rate (pending_in rate h) a d
moves rate h a (Candidate d false) = false

-- the cycle "found an interior candidate inside the bands"
unfoldable pub inside : ℕ → Samples → Outcome → Bool
inside rate a Unconfident = false
inside rate a (Candidate d true) = not (outside rate a d)
inside rate a (Candidate d false) = false

-- a "cycle that moved or found an interior candidate inside the bands"
unfoldable pub settles : ℕ → History → Samples → Outcome → Bool
settles rate h a o = either (moves rate h a o) (inside rate a o)

-- "Suspicion is on exactly if a discontinuity came after the last" such cycle, "or at all if none did"
unfoldable pub suspicion : ℕ → History → Bool
suspicion rate [] = false
suspicion rate (cycle a o ∷ h) = pick (settles rate h a o) false (suspicion rate h)
suspicion rate (discontinuity ∷ h) = true

-- ---- the tracker

-- What the calls leave, one after the other, beginning with a new tracker.
unfoldable pub tracker_after : ℕ → History → Tracker
tracker_after rate [] = (made rate).tracker
tracker_after rate (cycle a o ∷ h) = (cycled (tracker_after rate h) a o).tracker
tracker_after rate (discontinuity ∷ h) = (seamed (tracker_after rate h)).tracker

-- The verdict on a cycle that comes after the history.
abbrev pub verdict_after : ℕ → History → Samples → Outcome → Verdict
verdict_after rate h a o = (cycled (tracker_after rate h) a o).verdict

abbrev pub IsRefused : Verdict → Type 0
IsRefused v = (n : ℕ) × (v ≡ Refused n)

-- "any accepted history from a new tracker": neither the making nor any later call was refused
abbrev pub Accepted : ℕ → History → Type 0
Accepted rate [] = (made rate).answer ≡ Done
Accepted rate (cycle a o ∷ h) = (IsRefused (verdict_after rate h a o) → ⊥) × Accepted rate h
Accepted rate (discontinuity ∷ h) = ((seamed (tracker_after rate h)).answer ≡ Done) × Accepted rate h

-- Says the same from the history alone: every alignment and delay is below 2^62.
abbrev pub InRange : History → Type 0
InRange [] = Unit {0}
InRange (cycle a o ∷ h) = (ltb a.0 limit ≡ true) × (delay_below_limit o ≡ true) × InRange h
InRange (discontinuity ∷ h) = InRange h
