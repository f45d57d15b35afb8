-- Request f: "The tracker's record gains the largest run since it was made, never below the current one." This page says what that means for a history, and has the request's
-- statements.
use Rattle.std.specs.Prelude.{ℕ, ◌≤◌, max, ◌≡◌, List, [], ◌∷◌}
use Rattle.answers.specs.declared.Count.TheVariants.{Is}
use Rattle.answers.specs.Refusals.{none, inconsistent_record}
use Rattle.units.specs.declared.Samples.{Samples}
use Rattle.tracker.specs.declared.Outcome.{Outcome}
use Rattle.tracker.specs.declared.Verdict.TheVariants.{Refused}
use Rattle.tracker.specs.declared.Tracker.{Tracker}
use Rattle.tracker.specs.Tracker.{state_refusal, longest_run}
use Rattle.tracker_history.specs.Histories.{cycle, discontinuity, History, tracker_after, verdict_after, Accepted}

-- Lists the contradiction run after each cycle of the history, the latest first.
unfoldable pub runs_in : ℕ → History → List ℕ
runs_in rate [] = []
runs_in rate (cycle a o ∷ h) = (tracker_after rate (cycle a o ∷ h)).jumps ∷ runs_in rate h
runs_in rate (discontinuity ∷ h) = runs_in rate h

-- The largest is 0 if there is no run.
unfoldable pub largest_of : List ℕ → ℕ
largest_of [] = 0
largest_of (run ∷ runs) = max run (largest_of runs)

-- "the largest run since it was made, never below the current one"
pub record Longest (t : Tracker) (runs : List ℕ) : Type 0 where
  pub largest : t.largest ≡ largest_of runs
  pub covers : t.jumps ≤ t.largest
  pub told : longest_run t ≡ Is (largest_of runs)

abbrev pub LargestIsLargest : Type 0
LargestIsLargest = (rate : ℕ) (h : History) → Accepted rate h → Longest (tracker_after rate h) (runs_in rate h)

-- "`on_discontinuity` clears the current run and keeps the largest"
pub record Clears (before after : Tracker) : Type 0 where
  pub run : after.jumps ≡ 0
  pub largest : after.largest ≡ before.largest

abbrev pub SeamClears : Type 0
SeamClears = (rate : ℕ) (h : History) → Accepted rate (discontinuity ∷ h) → Clears (tracker_after rate h) (tracker_after rate (discontinuity ∷ h))

-- No tracker that calls left is refused with 9, whether they were accepted or refused. A cycle is refused for its state or for its numbers, every other call only for its state.
pub record Consistent (rate : ℕ) (h : History) : Type 0 where
  pub state : state_refusal (tracker_after rate h) ≡ none
  pub cycles : (a : Samples) (o : Outcome) → verdict_after rate h a o ≡ Refused inconsistent_record → ⊥

abbrev pub NeverInconsistent : Type 0
NeverInconsistent = (rate : ℕ) (h : History) → Consistent rate h
