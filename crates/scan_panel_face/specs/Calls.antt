-- The profile's calls on the words that a host lends. They are judged as the scan's are, with the profile's table in the place of the scan's.
use Rattle.std.specs.Prelude.{ℕ, Bool, true, List, [], Float}
use Rattle.answers.specs.Pick.{pick}
use Rattle.words.specs.Words.{fits, one_value}
use Rattle.words.specs.Answers.{number, given}
use Rattle.scan.specs.State.{Buffers}
use Rattle.scan.specs.Told.{taking_told, scoring_told}
use Rattle.scan_score.specs.Observing.{world}
use Rattle.scan_words.specs.Layout.{scan_words, loaded, settled}
use Rattle.scan_words.specs.Answers.{frame_values, took_words, scored_words, scoring_given}
use Rattle.scan_handover.specs.Told.{run_told}
use Rattle.scan_face.specs.Calls.{History, change_left, restart_left}
use Rattle.face.specs.Face.{Left, left, setting_first, judged, unless_refused}
use Rattle.scan_panel.specs.Panel.{panel_table, allows, panel_made, panel_reset, panel_rearmed, panel_discarded, panel_pushed_far, panel_pushed_near, panel_handed, panel_observed}

-- the length of what is lent, by rate and ceiling; 0 where the profile does not allow them
abbrev pub panel_length_for : ℕ → ℕ → ℕ → ℕ
panel_length_for rate ceiling n = pick (panel_table rate ceiling) n 0

-- the setting of a scan is its rate and ceiling
abbrev pub judged_panel : List ℕ → Bool → ℕ
judged_panel ws valuesFit = judged (fits scan_words ws) (allows (loaded ws)) valuesFit

-- ---- a making and a reset

unfoldable pub panel_new_called : List ℕ → History → ℕ → ℕ → Left History
panel_new_called ws h rate ceiling =
    unless_refused (setting_first (panel_table rate ceiling) (fits scan_words ws)) ws [] h
    (restart_left ws (panel_made rate ceiling h.envelope h.lag_sums))

unfoldable pub panel_reset_called : List ℕ → History → Left History
panel_reset_called ws h =
    unless_refused (judged_panel ws true) ws [] h
    (restart_left ws (panel_reset (loaded ws) h.envelope h.lag_sums))

-- lent: the lag sums
unfoldable pub panel_rearm_called : List ℕ → List Float → Left (List Float)
panel_rearm_called ws sums =
    let r = panel_rearmed (loaded ws) sums in
    unless_refused (judged_panel ws true) ws [] sums (change_left ws r.changed r.lag_sums)

unfoldable pub panel_discard_near_called : List ℕ → List Float → Left (List Float)
panel_discard_near_called ws sums =
    let r = panel_discarded (loaded ws) sums in
    unless_refused (judged_panel ws true) ws [] sums (change_left ws r.changed r.lag_sums)

-- lent: the far envelope
unfoldable pub panel_push_far_called : List ℕ → List Float → List Float → Left (List Float)
panel_push_far_called ws envelope xs =
    let p = panel_pushed_far (loaded ws) envelope xs in
    unless_refused (judged_panel ws true) ws [] envelope (change_left ws p.changed p.envelope)

-- lent: the near envelope
unfoldable pub panel_push_near_called : List ℕ → List Float → Float → ℕ → Left (List Float)
panel_push_near_called ws levels sample index =
    let p = panel_pushed_near (loaded ws) levels sample index in
    unless_refused (judged_panel ws true) ws [] levels (left (number (taking_told p.took.answer)) (took_words ws p.took) [] p.levels)

-- lent: the near envelope, and one value
unfoldable pub panel_push_near_run_called : List ℕ → List Float → List Float → ℕ → List ℕ → Left (List Float)
panel_push_near_run_called ws levels xs first vs =
    let p = panel_handed (loaded ws) levels xs first in
    let told = run_told p.handed.answer in
    unless_refused (judged_panel ws (fits one_value vs)) ws vs levels
    (left (number told) (settled ws (number told) p.handed.scan) (given vs told) p.levels)

-- lent: all seven buffers
unfoldable pub panel_observe_called : List ℕ → Buffers → List ℕ → Left Buffers
panel_observe_called ws b vs =
    let o = panel_observed (world (loaded ws) b) in
    unless_refused (judged_panel ws (fits frame_values vs)) ws vs b
    (left (number (scoring_told o.scored.answer)) (scored_words ws o.scored) (scoring_given vs o.scored.answer) o.buffers)
