-- The fine stage's calls on the words that a host lends.
use Rattle.std.specs.Prelude.{ℕ, Bool, true, List, [], Float}
use Rattle.answers.specs.Pick.{pick}
use Rattle.answers.specs.Numbers.{allowed_span}
use Rattle.answers.specs.Told.{change_told, count_told}
use Rattle.units.specs.Units.{samples}
use Rattle.words.specs.Words.{fits, one_value}
use Rattle.words.specs.Answers.{number, given}
use Rattle.fine.specs.declared.Changed.{Changed}
use Rattle.fine.specs.Calls.{made, restarted, relocated, was_reset, frame_len, window_len, max_delay, window_back_off, search_range, frames_of, skipped_of, last_scan_ratio, last_scan_peak_at, last_scan_origin, scans_of}
use Rattle.fine.specs.Told.{samples_told, range_told, ratio_told, position_told}
use Rattle.fine_gate.specs.Told.{taking_told, gate_told, rescan_told}
use Rattle.fine_gate.specs.Gate.{pushed_near, gated, rescanned}
use Rattle.fine_peak.specs.Told.{peak_told}
use Rattle.fine_peak.specs.Peak.{searched}
use Rattle.fine_words.specs.Layout.{fine_words, loaded}
use Rattle.fine_words.specs.Answers.{range_values, place_values, peak_values, ratio_pattern, ratio_given, peak_given, changed_words, took_words, gated_words, searched_words}
use Rattle.face.specs.Face.{Left, left, setting_first, judged, unless_refused}

-- Gives the length of what is lent, by the span; 0 if the span is outside the table.
abbrev pub length_for : ℕ → ℕ → ℕ
length_for span n = pick (allowed_span span) n 0

-- The setting of a fine state is its span.
abbrev pub judged_fine : List ℕ → Bool → ℕ
judged_fine ws valuesFit = judged (fits fine_words ws) (allowed_span (loaded ws).lengths.span) valuesFit

-- ---- calls that change the state

abbrev pub change_left : List ℕ → Changed → Left (Unit {0})
change_left ws c = left (number (change_told c.answer)) (changed_words ws c) [] tt

unfoldable pub new_called : List ℕ → ℕ → Left (Unit {0})
new_called ws span = unless_refused (setting_first (allowed_span span) (fits fine_words ws)) ws [] tt (change_left ws (made span))

abbrev pub change_called : List ℕ → Changed → Left (Unit {0})
change_called ws c = unless_refused (judged_fine ws true) ws [] tt (change_left ws c)

unfoldable pub restart_called : List ℕ → Left (Unit {0})
restart_called ws = change_called ws (restarted (loaded ws))

unfoldable pub relocate_called : List ℕ → ℕ → Left (Unit {0})
relocate_called ws origin = change_called ws (relocated (loaded ws) (samples origin))

unfoldable pub reset_called : List ℕ → Left (Unit {0})
reset_called ws = change_called ws (was_reset (loaded ws))

-- The near frame is lent.
unfoldable pub push_near_called : List ℕ → List Float → Float → Left (List Float)
push_near_called ws near sample =
    let p = pushed_near (loaded ws) near sample in
    unless_refused (judged_fine ws true) ws [] near (left (number (taking_told p.took.answer)) (took_words ws p.took) [] p.near)

-- Near frame, retained frame and far window are lent. The call writes the retained frame.
unfoldable pub gate_called : List ℕ → List Float → List Float → List Float → ℕ → ℕ → Left (List Float)
gate_called ws near retained far head tail =
    let g = gated (loaded ws) near retained far head tail in
    unless_refused (judged_fine ws true) ws [] retained (left (number (gate_told g.gated.answer)) (gated_words ws g.gated) [] g.retained)

unfoldable pub rescan_called : List ℕ → List Float → List Float → ℕ → ℕ → Left (Unit {0})
rescan_called ws retained far head tail =
    unless_refused (judged_fine ws true) ws [] tt
    (left (number (rescan_told (rescanned (loaded ws) retained far head tail).answer)) ws [] tt)

unfoldable pub peak_called : List ℕ → List Float → List ℕ → Left (Unit {0})
peak_called ws correlation vs =
    let s = searched (loaded ws) correlation in
    unless_refused (judged_fine ws (fits peak_values vs)) ws vs tt (left (number (peak_told s.answer)) (searched_words ws s) (peak_given vs s.answer) tt)

-- ---- reports

-- A list for this many values is lent.
abbrev pub reported : ℕ → List ℕ → List ℕ → List ℕ → Left (Unit {0})
reported values ws vs told = unless_refused (judged_fine ws (fits values vs)) ws vs tt (left (number told) ws (given vs told) tt)

unfoldable pub state_frame_len_called : List ℕ → List ℕ → Left (Unit {0})
state_frame_len_called ws vs = reported one_value ws vs (samples_told (frame_len (loaded ws)))

unfoldable pub state_window_len_called : List ℕ → List ℕ → Left (Unit {0})
state_window_len_called ws vs = reported one_value ws vs (samples_told (window_len (loaded ws)))

unfoldable pub max_delay_called : List ℕ → List ℕ → Left (Unit {0})
max_delay_called ws vs = reported one_value ws vs (samples_told (max_delay (loaded ws)))

unfoldable pub window_back_off_called : List ℕ → List ℕ → Left (Unit {0})
window_back_off_called ws vs = reported one_value ws vs (samples_told (window_back_off (loaded ws)))

unfoldable pub search_range_called : List ℕ → List ℕ → Left (Unit {0})
search_range_called ws vs = reported range_values ws vs (range_told (search_range (loaded ws)))

unfoldable pub frames_called : List ℕ → List ℕ → Left (Unit {0})
frames_called ws vs = reported one_value ws vs (count_told (frames_of (loaded ws)))

unfoldable pub skipped_called : List ℕ → List ℕ → Left (Unit {0})
skipped_called ws vs = reported one_value ws vs (count_told (skipped_of (loaded ws)))

unfoldable pub last_scan_ratio_called : List ℕ → List ℕ → Left (Unit {0})
last_scan_ratio_called ws vs =
    let report = last_scan_ratio (loaded ws) in
    unless_refused (judged_fine ws (fits one_value vs)) ws vs tt (left (number (ratio_told report)) ws (ratio_given vs (ratio_pattern ws) report) tt)

unfoldable pub last_scan_peak_at_called : List ℕ → List ℕ → Left (Unit {0})
last_scan_peak_at_called ws vs = reported place_values ws vs (position_told (last_scan_peak_at (loaded ws)))

unfoldable pub last_scan_origin_called : List ℕ → List ℕ → Left (Unit {0})
last_scan_origin_called ws vs = reported one_value ws vs (samples_told (last_scan_origin (loaded ws)))

unfoldable pub scans_called : List ℕ → List ℕ → Left (Unit {0})
scans_called ws vs = reported one_value ws vs (count_told (scans_of (loaded ws)))
