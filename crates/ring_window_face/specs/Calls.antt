-- Windows of the ring and pushes of floats, on the word and the buffer that a host lends. A ring has no setting, so these calls judge only lengths before what the ring refuses.
use Rattle.std.specs.Prelude.{ℕ, Bool, true, List, [], length, Float}
use Rattle.answers.specs.Told.{change_told}
use Rattle.words.specs.Words.{fits}
use Rattle.words.specs.Answers.{number, given}
use Rattle.ring_words.specs.Layout.{ring_words, loaded, changed_words}
use Rattle.ring_window.specs.Window.{reading_of, window_read, floats_read, floats_pushed, floats_pushed_buf}
use Rattle.ring_window.specs.Told.{reading_told}
use Rattle.face.specs.Face.{Left, left, judged, unless_refused}

-- Two values are lent: missing at the head, and at the tail.
abbrev pub window_values : ℕ
window_values = 2

abbrev pub judged_ring : List ℕ → Bool → ℕ
judged_ring ws valuesFit = judged (fits ring_words ws) true valuesFit

-- A report: the word stays, and the window is written.
unfoldable pub window_called : List ℕ → List ℕ → ℕ → ℕ → List ℕ → List ℕ → Left (List ℕ)
window_called ws buf at back window vs =
    let told = reading_told (reading_of (loaded ws) (length buf) at back (length window)) in
    unless_refused (judged_ring ws (fits window_values vs)) ws vs window
    (left (number told) ws (given vs told) (window_read (loaded ws) buf at back window))

unfoldable pub window_floats_called : List ℕ → List ℕ → ℕ → ℕ → List Float → List ℕ → Left (List Float)
window_floats_called ws buf at back window vs =
    let told = reading_told (reading_of (loaded ws) (length buf) at back (length window)) in
    unless_refused (judged_ring ws (fits window_values vs)) ws vs window
    (left (number told) ws (given vs told) (floats_read (loaded ws) buf at back window))

unfoldable pub push_floats_called : List ℕ → List ℕ → List Float → Left (List ℕ)
push_floats_called ws buf xs =
    let c = floats_pushed (loaded ws) (length buf) xs in
    unless_refused (judged_ring ws true) ws [] buf
    (left (number (change_told c.answer)) (changed_words ws c) [] (floats_pushed_buf (loaded ws) buf xs))
