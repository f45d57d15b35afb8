-- The tracker's calls on the words that a host lends.
use Rattle.std.specs.Prelude.{ℕ, Bool, true, false, List, [], ltb, eqb, Some}
use Rattle.answers.specs.declared.Count.{Count}
use Rattle.answers.specs.declared.Flag.{Flag}
use Rattle.answers.specs.Pick.{pick}
use Rattle.answers.specs.Numbers.{limit, allowed_rate}
use Rattle.answers.specs.Told.{change_told, count_told, flag_told}
use Rattle.units.specs.Units.{samples}
use Rattle.words.specs.Words.{fits, one_value}
use Rattle.words.specs.Answers.{number, given}
use Rattle.tracker.specs.declared.Changed.{Changed}
use Rattle.tracker.specs.declared.Cycled.{Cycled}
use Rattle.tracker.specs.declared.Outcome.{Outcome}
use Rattle.tracker.specs.declared.Outcome.TheVariants.{Candidate, Unconfident}
use Rattle.tracker.specs.declared.Tracker.{Tracker}
use Rattle.tracker.specs.Tracker.{evidence, made, seamed, jump_cycles, longest_run, suspected, quiescent}
use Rattle.tracker.specs.Cycle.{cycled}
use Rattle.tracker.specs.Told.{verdict_told}
use Rattle.tracker_words.specs.Layout.{tracker_words, loaded}
use Rattle.tracker_words.specs.Answers.{changed_words, cycled_words}
use Rattle.face.specs.Face.{Left, left, setting_first, judged, unless_refused}

-- The setting of a tracker is its rate.
abbrev pub judged_tracker : List ℕ → Bool → ℕ
judged_tracker ws valuesFit = judged (fits tracker_words ws) (allowed_rate (loaded ws).rate) valuesFit

-- ---- calls that change the tracker

abbrev pub change_left : List ℕ → Changed → Left (Unit {0})
change_left ws c = left (number (change_told c.answer)) (changed_words ws c) [] tt

unfoldable pub new_called : List ℕ → ℕ → Left (Unit {0})
new_called ws rate = unless_refused (setting_first (allowed_rate rate) (fits tracker_words ws)) ws [] tt (change_left ws (made rate))

unfoldable pub on_discontinuity_called : List ℕ → Left (Unit {0})
on_discontinuity_called ws = unless_refused (judged_tracker ws true) ws [] tt (change_left ws (seamed (loaded ws)))

-- Reads a cycle by its kind: 0 is unconfident, 1 interior, 2 edge.
unfoldable pub outcome_of : ℕ → ℕ → Outcome
outcome_of kind delay = pick (eqb kind 1) (Candidate (samples delay) true) (pick (eqb kind 2) (Candidate (samples delay) false) Unconfident)

-- Any other kind is refused in the same way as a word of the state that encodes no case: the tracker is made to break a rule.
unfoldable pub judged_as : Tracker → ℕ → Tracker
judged_as t kind = pick (ltb kind 3) t (evidence t (Some (samples limit)) t.prev t.edges t.jumps t.unconfident t.suspect)

unfoldable pub cycled_on : Tracker → ℕ → ℕ → ℕ → Cycled
cycled_on t alignment kind delay = cycled (judged_as t kind) (samples alignment) (outcome_of kind delay)

unfoldable pub on_cycle_called : List ℕ → ℕ → ℕ → ℕ → List ℕ → Left (Unit {0})
on_cycle_called ws alignment kind delay vs =
    let c = cycled_on (loaded ws) alignment kind delay in
    unless_refused (judged_tracker ws (fits one_value vs)) ws vs tt (left (number (verdict_told c.verdict)) (cycled_words ws c) (given vs (verdict_told c.verdict)) tt)

-- ---- reports

abbrev pub count_called : List ℕ → List ℕ → Count → Left (Unit {0})
count_called ws vs count =
    unless_refused (judged_tracker ws (fits one_value vs)) ws vs tt (left (number (count_told count)) ws (given vs (count_told count)) tt)

unfoldable pub jump_cycles_called : List ℕ → List ℕ → Left (Unit {0})
jump_cycles_called ws vs = count_called ws vs (jump_cycles (loaded ws))

unfoldable pub longest_run_called : List ℕ → List ℕ → Left (Unit {0})
longest_run_called ws vs = count_called ws vs (longest_run (loaded ws))

abbrev pub flag_called : List ℕ → Flag → Left (Unit {0})
flag_called ws flag = unless_refused (judged_tracker ws true) ws [] tt (left (number (flag_told flag)) ws [] tt)

unfoldable pub suspect_called : List ℕ → Left (Unit {0})
suspect_called ws = flag_called ws (suspected (loaded ws))

unfoldable pub quiescent_called : List ℕ → Left (Unit {0})
quiescent_called ws = flag_called ws (quiescent (loaded ws))
