-- The scan's calls on the words that a host lends.
use Rattle.std.specs.Prelude.{ℕ, Bool, true, List, [], Float}
use Rattle.std.specs.Borrow.{Bor, MutBor}
use denote.Triple.Both.{Both}
use Rattle.answers.specs.Pick.{pick}
use Rattle.answers.specs.declared.Flag.{Flag}
use Rattle.answers.specs.Told.{change_told, count_told, flag_told}
use Rattle.words.specs.Words.{fits, one_value}
use Rattle.words.specs.Answers.{number, given}
use Rattle.scan.specs.Bins.{full_slack, in_table}
use Rattle.scan.specs.State.{Buffers}
use Rattle.scan.specs.Calls.{Restart, made, was_reset, rearmed, discarded, pushed_far, pushed_near, observed, bin_samples, ceiling_samples, frames_of, correlation_of, region_of, beyond_ceiling, is_finished, is_exhausted}
use Rattle.scan.specs.Told.{taking_told, scoring_told, region_told, level_told, samples_told}
use Rattle.scan.specs.declared.Changed.{Changed}
use Rattle.scan_score.specs.Observing.{lent, world}
use Rattle.scan_words.specs.Layout.{scan_words, loaded}
use Rattle.scan_words.specs.Answers.{frame_values, region_value_count, changed_words, took_words, scored_words, scoring_given, level_given, level_pattern, region_given, correlation_pattern}
use Rattle.face.specs.Face.{Left, left, setting_first, judged, unless_refused}

-- the length of what is lent, by rate and ceiling; 0 where one is outside the table
abbrev pub length_for : ℕ → ℕ → ℕ → ℕ
length_for rate ceiling n = pick (in_table rate ceiling) n 0

-- the setting of a scan is its rate and ceiling
abbrev pub judged_scan : List ℕ → Bool → ℕ
judged_scan ws valuesFit = judged (fits scan_words ws) (in_table (loaded ws).geometry.rate (loaded ws).geometry.ceiling) valuesFit

-- ---- calls that change the state

abbrev pub change_left : {B : Type 0} → List ℕ → Changed → B → Left B
change_left ws c b = left (number (change_told c.answer)) (changed_words ws c) [] b

-- what a making and a reset are lent
pub record History : Type 0 where
  pub envelope : List Float
  pub lag_sums : List Float

abbrev pub history : List Float → List Float → History
history envelope lag_sums = record { envelope = envelope; lag_sums = lag_sums }

-- ---- lists as a contract has them: what stands in each at the call, and right after it

abbrev pub Lent : Type 0
Lent = Both (MutBor (List Float)) (MutBor (List Float))

abbrev pub OnlyRead : Type 0
OnlyRead = Both (Bor (List Float)) (Bor (List Float))

abbrev pub history_given : Lent → Lent → History
history_given envelope lag_sums = history envelope.entry.now lag_sums.entry.now

abbrev pub history_left : Lent → Lent → History
history_left envelope lag_sums = history envelope.exit.now lag_sums.exit.now

abbrev pub buffers_given : OnlyRead → OnlyRead → Lent → Lent → Lent → Lent → Lent → Buffers
buffers_given envelope levels window prefix squares scores lag_sums =
    lent envelope.entry.now levels.entry.now window.entry.now prefix.entry.now squares.entry.now scores.entry.now lag_sums.entry.now

-- envelope and levels are only read
abbrev pub buffers_left : OnlyRead → OnlyRead → Lent → Lent → Lent → Lent → Lent → Buffers
buffers_left envelope levels window prefix squares scores lag_sums =
    lent envelope.entry.now levels.entry.now window.exit.now prefix.exit.now squares.exit.now scores.exit.now lag_sums.exit.now

-- ---- a making and a reset

abbrev pub restart_left : List ℕ → Restart → Left History
restart_left ws r = change_left ws r.changed (history r.envelope r.lag_sums)

unfoldable pub new_called : List ℕ → History → ℕ → ℕ → Left History
new_called ws h rate ceiling =
    unless_refused (setting_first (in_table rate ceiling) (fits scan_words ws)) ws [] h
    (restart_left ws (made full_slack rate ceiling h.envelope h.lag_sums))

unfoldable pub reset_called : List ℕ → History → Left History
reset_called ws h =
    unless_refused (judged_scan ws true) ws [] h
    (restart_left ws (was_reset full_slack (loaded ws) h.envelope h.lag_sums))

-- lent: the lag sums
unfoldable pub rearm_called : List ℕ → List Float → Left (List Float)
rearm_called ws sums =
    let r = rearmed (loaded ws) sums in
    unless_refused (judged_scan ws true) ws [] sums (change_left ws r.changed r.lag_sums)

unfoldable pub discard_near_called : List ℕ → List Float → Left (List Float)
discard_near_called ws sums =
    let r = discarded (loaded ws) sums in
    unless_refused (judged_scan ws true) ws [] sums (change_left ws r.changed r.lag_sums)

-- lent: the far envelope
unfoldable pub push_far_called : List ℕ → List Float → List Float → Left (List Float)
push_far_called ws envelope xs =
    let p = pushed_far full_slack (loaded ws) envelope xs in
    unless_refused (judged_scan ws true) ws [] envelope (change_left ws p.changed p.envelope)

-- lent: the near envelope
unfoldable pub push_near_called : List ℕ → List Float → Float → ℕ → Left (List Float)
push_near_called ws levels sample index =
    let p = pushed_near (loaded ws) levels sample index in
    unless_refused (judged_scan ws true) ws [] levels (left (number (taking_told p.took.answer)) (took_words ws p.took) [] p.levels)

-- lent: all seven buffers
unfoldable pub observe_called : List ℕ → Buffers → List ℕ → Left Buffers
observe_called ws b vs =
    let o = observed full_slack (world (loaded ws) b) in
    unless_refused (judged_scan ws (fits frame_values vs)) ws vs b
    (left (number (scoring_told o.scored.answer)) (scored_words ws o.scored) (scoring_given vs o.scored.answer) o.buffers)

-- ---- reports

-- a report of one number, which tells this
abbrev pub report_called : List ℕ → List ℕ → List ℕ → Left (Unit {0})
report_called ws vs told = unless_refused (judged_scan ws (fits one_value vs)) ws vs tt (left (number told) ws (given vs told) tt)

unfoldable pub bin_samples_called : List ℕ → List ℕ → Left (Unit {0})
bin_samples_called ws vs = report_called ws vs (samples_told (bin_samples (loaded ws)))

unfoldable pub ceiling_samples_called : List ℕ → List ℕ → Left (Unit {0})
ceiling_samples_called ws vs = report_called ws vs (samples_told (ceiling_samples (loaded ws)))

unfoldable pub frames_called : List ℕ → List ℕ → Left (Unit {0})
frames_called ws vs = report_called ws vs (count_told (frames_of (loaded ws)))

unfoldable pub correlation_called : List ℕ → List ℕ → Left (Unit {0})
correlation_called ws vs =
    let report = correlation_of (loaded ws) in
    unless_refused (judged_scan ws (fits one_value vs)) ws vs tt (left (number (level_told report)) ws (level_given vs (level_pattern ws) report) tt)

unfoldable pub region_called : List ℕ → List ℕ → Left (Unit {0})
region_called ws vs =
    let report = region_of (loaded ws) in
    unless_refused (judged_scan ws (fits region_value_count vs)) ws vs tt (left (number (region_told report)) ws (region_given vs (correlation_pattern ws) report) tt)

abbrev pub flag_called : List ℕ → Flag → Left (Unit {0})
flag_called ws report = unless_refused (judged_scan ws true) ws [] tt (left (number (flag_told report)) ws [] tt)

unfoldable pub beyond_ceiling_called : List ℕ → Left (Unit {0})
beyond_ceiling_called ws = flag_called ws (beyond_ceiling (loaded ws))

unfoldable pub finished_called : List ℕ → Left (Unit {0})
finished_called ws = flag_called ws (is_finished (loaded ws))

unfoldable pub exhausted_called : List ℕ → Left (Unit {0})
exhausted_called ws = flag_called ws (is_exhausted (loaded ws))
