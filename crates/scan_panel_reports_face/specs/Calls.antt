-- The profile's reports on the words that a host lends.
use Rattle.std.specs.Prelude.{ℕ, true, List, []}
use Rattle.answers.specs.declared.Flag.{Flag}
use Rattle.answers.specs.Told.{count_told, flag_told}
use Rattle.words.specs.Words.{fits, one_value}
use Rattle.words.specs.Answers.{number, given}
use Rattle.scan.specs.Told.{region_told, level_told, samples_told}
use Rattle.scan_words.specs.Layout.{loaded}
use Rattle.scan_words.specs.Answers.{region_value_count, level_given, level_pattern, region_given, correlation_pattern}
use Rattle.face.specs.Face.{Left, left, unless_refused}
use Rattle.scan_panel.specs.Panel.{panel_bin_samples, panel_ceiling_samples, panel_frames_of, panel_correlation_of, panel_region_of, panel_beyond_ceiling, panel_is_finished, panel_is_exhausted}
use Rattle.scan_panel_face.specs.Calls.{judged_panel}

-- a report of one number, which tells this
abbrev pub panel_report_called : List ℕ → List ℕ → List ℕ → Left (Unit {0})
panel_report_called ws vs told = unless_refused (judged_panel ws (fits one_value vs)) ws vs tt (left (number told) ws (given vs told) tt)

unfoldable pub panel_bin_samples_called : List ℕ → List ℕ → Left (Unit {0})
panel_bin_samples_called ws vs = panel_report_called ws vs (samples_told (panel_bin_samples (loaded ws)))

unfoldable pub panel_ceiling_samples_called : List ℕ → List ℕ → Left (Unit {0})
panel_ceiling_samples_called ws vs = panel_report_called ws vs (samples_told (panel_ceiling_samples (loaded ws)))

unfoldable pub panel_frames_called : List ℕ → List ℕ → Left (Unit {0})
panel_frames_called ws vs = panel_report_called ws vs (count_told (panel_frames_of (loaded ws)))

unfoldable pub panel_correlation_called : List ℕ → List ℕ → Left (Unit {0})
panel_correlation_called ws vs =
    let report = panel_correlation_of (loaded ws) in
    unless_refused (judged_panel ws (fits one_value vs)) ws vs tt (left (number (level_told report)) ws (level_given vs (level_pattern ws) report) tt)

unfoldable pub panel_region_called : List ℕ → List ℕ → Left (Unit {0})
panel_region_called ws vs =
    let report = panel_region_of (loaded ws) in
    unless_refused (judged_panel ws (fits region_value_count vs)) ws vs tt (left (number (region_told report)) ws (region_given vs (correlation_pattern ws) report) tt)

abbrev pub panel_flag_called : List ℕ → Flag → Left (Unit {0})
panel_flag_called ws report = unless_refused (judged_panel ws true) ws [] tt (left (number (flag_told report)) ws [] tt)

unfoldable pub panel_beyond_ceiling_called : List ℕ → Left (Unit {0})
panel_beyond_ceiling_called ws = panel_flag_called ws (panel_beyond_ceiling (loaded ws))

unfoldable pub panel_finished_called : List ℕ → Left (Unit {0})
panel_finished_called ws = panel_flag_called ws (panel_is_finished (loaded ws))

unfoldable pub panel_exhausted_called : List ℕ → Left (Unit {0})
panel_exhausted_called ws = panel_flag_called ws (panel_is_exhausted (loaded ws))
