-- The pair's calls on the words that a host lends. A call of a channel writes that channel's words, a far push the far side's, a making and a reset all.
use Rattle.std.specs.Prelude.{ℕ, Bool, true, List, [], ltb, Float}
use Rattle.std.specs.Borrow.{Bor, MutBor}
use denote.Triple.Both.{Both}
use Rattle.answers.specs.Refusals.{require}
use Rattle.answers.specs.declared.Flag.{Flag}
use Rattle.answers.specs.Told.{change_told, count_told, flag_told}
use Rattle.words.specs.Words.{fits, one_value}
use Rattle.words.specs.Answers.{number, given}
use Rattle.scan.specs.Bins.{full_slack, in_table}
use Rattle.scan.specs.State.{Buffers}
use Rattle.scan.specs.Told.{taking_told, scoring_told, region_told, level_told, samples_told}
use Rattle.scan_score.specs.Observing.{lent}
use Rattle.scan_handover.specs.Told.{run_told}
use Rattle.scan_words.specs.Answers.{frame_values, region_value_count, scoring_given, level_given, level_pattern, region_given, correlation_pattern}
use Rattle.scan_pair.specs.State.{named, side_of, no_such_channel}
use Rattle.scan_pair.specs.Calls.{PairRestart, pair_made, pair_reset, PairClearing, pair_rearmed, pair_discarded, pair_far, pair_near, pair_observed, pair_bin_samples, pair_ceiling_samples, pair_frames, pair_correlation, pair_region, pair_beyond_ceiling, pair_finished, pair_exhausted}
use Rattle.scan_pair_calls.specs.Runs.{pair_handed}
use Rattle.scan_pair_words.specs.Layout.{pair_words, words_of, loaded_pair, settled_in, far_settled, pair_settled}
use Rattle.face.specs.Face.{Left, left, setting_first, judged, unless_refused}

-- the setting of a pair is its rate and ceiling
abbrev pub judged_pair : List ℕ → Bool → ℕ
judged_pair ws valuesFit = judged (fits pair_words ws) (in_table (loaded_pair ws).geometry.rate (loaded_pair ws).geometry.ceiling) valuesFit

-- "11, channel number not 0 or 1, before all others": before the length of the words, too
unfoldable pub judged_on : ℕ → List ℕ → Bool → ℕ
judged_on c ws valuesFit = require (ltb c 2) no_such_channel (judged_pair ws valuesFit)

-- ---- lists as a contract has them: what stands in each at the call, and right after it

abbrev pub Lent : Type 0
Lent = Both (MutBor (List Float)) (MutBor (List Float))

abbrev pub OnlyRead : Type 0
OnlyRead = Both (Bor (List Float)) (Bor (List Float))

-- what a making and a reset are lent
pub record PairHistory : Type 0 where
  pub envelope : List Float
  pub first_sums : List Float
  pub second_sums : List Float

abbrev pub pair_history : List Float → List Float → List Float → PairHistory
pair_history envelope first_sums second_sums = record { envelope = envelope; first_sums = first_sums; second_sums = second_sums }

abbrev pub history_given : Lent → Lent → Lent → PairHistory
history_given envelope first_sums second_sums = pair_history envelope.entry.now first_sums.entry.now second_sums.entry.now

abbrev pub history_left : Lent → Lent → Lent → PairHistory
history_left envelope first_sums second_sums = pair_history envelope.exit.now first_sums.exit.now second_sums.exit.now

abbrev pub buffers_given : OnlyRead → OnlyRead → Lent → Lent → Lent → Lent → Lent → Buffers
buffers_given envelope levels window prefix squares scores lag_sums =
    lent envelope.entry.now levels.entry.now window.entry.now prefix.entry.now squares.entry.now scores.entry.now lag_sums.entry.now

-- envelope and levels are only read
abbrev pub buffers_left : OnlyRead → OnlyRead → Lent → Lent → Lent → Lent → Lent → Buffers
buffers_left envelope levels window prefix squares scores lag_sums =
    lent envelope.entry.now levels.entry.now window.exit.now prefix.exit.now squares.exit.now scores.exit.now lag_sums.exit.now

-- ---- a making and a reset

abbrev pub restart_left : List ℕ → PairRestart → Left PairHistory
restart_left ws r =
    let n = number (change_told r.changed.answer) in
    left n (pair_settled ws n r.changed.pair) [] (pair_history r.envelope r.first_sums r.second_sums)

unfoldable pub new_called : List ℕ → PairHistory → ℕ → ℕ → Left PairHistory
new_called ws h rate ceiling =
    unless_refused (setting_first (in_table rate ceiling) (fits pair_words ws)) ws [] h
    (restart_left ws (pair_made full_slack rate ceiling h.envelope h.first_sums h.second_sums))

unfoldable pub reset_called : List ℕ → PairHistory → Left PairHistory
reset_called ws h =
    unless_refused (judged_pair ws true) ws [] h
    (restart_left ws (pair_reset full_slack (loaded_pair ws) h.envelope h.first_sums h.second_sums))

-- lent: the far envelope
unfoldable pub push_far_called : List ℕ → List Float → List Float → Left (List Float)
push_far_called ws envelope xs =
    let p = pair_far full_slack (loaded_pair ws) envelope xs in
    let n = number (change_told p.changed.answer) in
    unless_refused (judged_pair ws true) ws [] envelope (left n (far_settled ws n p.changed.pair) [] p.envelope)

-- ---- calls of a channel

-- lent: the channel's lag sums
abbrev pub clear_left : List ℕ → ℕ → PairClearing → Left (List Float)
clear_left ws c r =
    let n = number (change_told r.changed.answer) in
    left n (settled_in ws n (side_of c) r.changed.pair) [] r.lag_sums

unfoldable pub rearm_called : List ℕ → ℕ → List Float → Left (List Float)
rearm_called ws c sums = unless_refused (judged_on c ws true) ws [] sums (clear_left ws c (pair_rearmed (loaded_pair ws) (named c) sums))

unfoldable pub discard_near_called : List ℕ → ℕ → List Float → Left (List Float)
discard_near_called ws c sums = unless_refused (judged_on c ws true) ws [] sums (clear_left ws c (pair_discarded (loaded_pair ws) (named c) sums))

-- lent: the channel's near levels
unfoldable pub push_near_called : List ℕ → ℕ → List Float → Float → ℕ → Left (List Float)
push_near_called ws c levels sample index =
    let p = pair_near (loaded_pair ws) (named c) levels sample index in
    let n = number (taking_told p.took.answer) in
    unless_refused (judged_on c ws true) ws [] levels (left n (settled_in ws n (side_of c) p.took.pair) [] p.levels)

-- lent: the channel's near levels, and one value
unfoldable pub push_near_run_called : List ℕ → ℕ → List Float → List Float → ℕ → List ℕ → Left (List Float)
push_near_run_called ws c levels xs first vs =
    let p = pair_handed (loaded_pair ws) (named c) levels xs first in
    let told = run_told p.handed.answer in
    unless_refused (judged_on c ws (fits one_value vs)) ws vs levels
    (left (number told) (settled_in ws (number told) (side_of c) p.handed.pair) (given vs told) p.levels)

-- lent: the far envelope, the channel's near levels and lag sums, and the scratch
unfoldable pub observe_called : List ℕ → ℕ → Buffers → List ℕ → Left Buffers
observe_called ws c b vs =
    let o = pair_observed full_slack (loaded_pair ws) (named c) b in
    let n = number (scoring_told o.scored.answer) in
    unless_refused (judged_on c ws (fits frame_values vs)) ws vs b
    (left n (settled_in ws n (side_of c) o.scored.pair) (scoring_given vs o.scored.answer) o.buffers)

-- ---- reports of the settings

-- one number, which tells this
abbrev pub setting_called : List ℕ → List ℕ → List ℕ → Left (Unit {0})
setting_called ws vs told = unless_refused (judged_pair ws (fits one_value vs)) ws vs tt (left (number told) ws (given vs told) tt)

unfoldable pub bin_samples_called : List ℕ → List ℕ → Left (Unit {0})
bin_samples_called ws vs = setting_called ws vs (samples_told (pair_bin_samples (loaded_pair ws)))

unfoldable pub ceiling_samples_called : List ℕ → List ℕ → Left (Unit {0})
ceiling_samples_called ws vs = setting_called ws vs (samples_told (pair_ceiling_samples (loaded_pair ws)))

-- ---- reports of a channel. A float that stands in the state is given by the pattern that it has in the channel's own words.

unfoldable pub frames_called : List ℕ → ℕ → List ℕ → Left (Unit {0})
frames_called ws c vs =
    let told = count_told (pair_frames (loaded_pair ws) (named c)) in
    unless_refused (judged_on c ws (fits one_value vs)) ws vs tt (left (number told) ws (given vs told) tt)

unfoldable pub correlation_called : List ℕ → ℕ → List ℕ → Left (Unit {0})
correlation_called ws c vs =
    let report = pair_correlation (loaded_pair ws) (named c) in
    unless_refused (judged_on c ws (fits one_value vs)) ws vs tt (left (number (level_told report)) ws (level_given vs (level_pattern (words_of (side_of c) ws)) report) tt)

unfoldable pub region_called : List ℕ → ℕ → List ℕ → Left (Unit {0})
region_called ws c vs =
    let report = pair_region (loaded_pair ws) (named c) in
    unless_refused (judged_on c ws (fits region_value_count vs)) ws vs tt (left (number (region_told report)) ws (region_given vs (correlation_pattern (words_of (side_of c) ws)) report) tt)

abbrev pub flag_called : List ℕ → ℕ → Flag → Left (Unit {0})
flag_called ws c report = unless_refused (judged_on c ws true) ws [] tt (left (number (flag_told report)) ws [] tt)

unfoldable pub beyond_ceiling_called : List ℕ → ℕ → Left (Unit {0})
beyond_ceiling_called ws c = flag_called ws c (pair_beyond_ceiling (loaded_pair ws) (named c))

unfoldable pub finished_called : List ℕ → ℕ → Left (Unit {0})
finished_called ws c = flag_called ws c (pair_finished (loaded_pair ws) (named c))

unfoldable pub exhausted_called : List ℕ → ℕ → Left (Unit {0})
exhausted_called ws c = flag_called ws c (pair_exhausted (loaded_pair ws) (named c))
