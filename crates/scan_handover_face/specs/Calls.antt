-- The call of request a on the words that a host lends.
use Rattle.std.specs.Prelude.{ℕ, Bool, List, Float}
use Rattle.words.specs.Words.{fits, one_value}
use Rattle.words.specs.Answers.{number, given}
use Rattle.scan.specs.Bins.{in_table}
use Rattle.scan_words.specs.Layout.{scan_words, loaded, settled}
use Rattle.scan_handover.specs.Handover.{handed}
use Rattle.scan_handover.specs.Told.{run_told}
use Rattle.face.specs.Face.{Left, left, judged, unless_refused}

-- the setting of a scan is its rate and ceiling
abbrev pub judged_run : List ℕ → Bool → ℕ
judged_run ws valuesFit = judged (fits scan_words ws) (in_table (loaded ws).geometry.rate (loaded ws).geometry.ceiling) valuesFit

-- lent: the near envelope, and one value
unfoldable pub push_near_run_called : List ℕ → List Float → List Float → ℕ → List ℕ → Left (List Float)
push_near_run_called ws levels xs first vs =
    let p = handed (loaded ws) levels xs first in
    let told = run_told p.handed.answer in
    unless_refused (judged_run ws (fits one_value vs)) ws vs levels
    (left (number told) (settled ws (number told) p.handed.scan) (given vs told) p.levels)
