-- Near samples of the fine stage in runs, on the words that a host lends; and the length of the host's transform.
use Rattle.std.specs.Prelude.{ℕ, Bool, List, Float}
use Rattle.answers.specs.Pick.{pick}
use Rattle.answers.specs.Numbers.{allowed_span}
use Rattle.words.specs.Words.{fits, one_value}
use Rattle.words.specs.Answers.{number, given}
use Rattle.fine.specs.State.{transform_of}
use Rattle.fine_words.specs.Layout.{fine_words, loaded, settled}
use Rattle.fine_handover.specs.Handover.{handed}
use Rattle.fine_handover.specs.Told.{run_told}
use Rattle.face.specs.Face.{Left, left, judged, unless_refused}

-- Gives the length of the transform; 0 if the span is outside the table.
abbrev pub transform_len : ℕ → ℕ
transform_len span = pick (allowed_span span) (transform_of span) 0

-- The setting of a fine state is its span.
abbrev pub judged_run : List ℕ → Bool → ℕ
judged_run ws valuesFit = judged (fits fine_words ws) (allowed_span (loaded ws).lengths.span) valuesFit

-- The near frame and one value are lent.
unfoldable pub push_near_run_called : List ℕ → List Float → List Float → List ℕ → Left (List Float)
push_near_run_called ws near xs vs =
    let p = handed (loaded ws) near xs in
    let told = run_told p.handed.answer in
    unless_refused (judged_run ws (fits one_value vs)) ws vs near
    (left (number told) (settled ws (number told) p.handed.fine) (given vs told) p.near)
