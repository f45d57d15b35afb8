-- The ring's calls on the word that a host lends. A ring has no setting, so its calls judge only lengths before what the ring refuses.
use Rattle.std.specs.Prelude.{ℕ, Bool, true, List, [], length}
use Rattle.answers.specs.declared.Count.{Count}
use Rattle.answers.specs.Told.{change_told, count_told}
use Rattle.words.specs.Words.{fits, one_value}
use Rattle.words.specs.Answers.{number, given}
use Rattle.ring.specs.Ring.{made, pushed, pushed_buf, gotten, next_abs, capacity_of, dropped_of, cleared}
use Rattle.ring.specs.declared.Changed.{Changed}
use Rattle.ring.specs.Told.{kept_told}
use Rattle.ring_words.specs.Layout.{ring_words, loaded, changed_words}
use Rattle.face.specs.Face.{Left, left, judged, unless_refused}

abbrev pub judged_ring : List ℕ → Bool → ℕ
judged_ring ws valuesFit = judged (fits ring_words ws) true valuesFit

-- ---- calls that change the ring. Making and clearing use only the length of the buffer.

abbrev pub change_left : {B : Type 0} → List ℕ → Changed → B → Left B
change_left ws c b = left (number (change_told c.answer)) (changed_words ws c) [] b

unfoldable pub new_called : List ℕ → List ℕ → Left (Unit {0})
new_called ws buf = unless_refused (judged_ring ws true) ws [] tt (change_left ws (made (length buf)) tt)

unfoldable pub push_called : List ℕ → List ℕ → List ℕ → Left (List ℕ)
push_called ws buf xs =
    unless_refused (judged_ring ws true) ws [] buf
    (change_left ws (pushed (loaded ws) (length buf) (length xs)) (pushed_buf (loaded ws) buf xs))

unfoldable pub clear_called : List ℕ → List ℕ → Left (Unit {0})
clear_called ws buf = unless_refused (judged_ring ws true) ws [] tt (change_left ws (cleared (loaded ws) (length buf)) tt)

-- ---- reports

unfoldable pub get_called : List ℕ → List ℕ → ℕ → List ℕ → Left (Unit {0})
get_called ws buf at vs =
    let told = kept_told (gotten (loaded ws) (length buf) at) in
    unless_refused (judged_ring ws (fits one_value vs)) ws vs tt (left (number told) ws (given vs told) tt)

abbrev pub count_called : List ℕ → List ℕ → Count → Left (Unit {0})
count_called ws vs count =
    unless_refused (judged_ring ws (fits one_value vs)) ws vs tt (left (number (count_told count)) ws (given vs (count_told count)) tt)

unfoldable pub next_abs_called : List ℕ → List ℕ → List ℕ → Left (Unit {0})
next_abs_called ws buf vs = count_called ws vs (next_abs (loaded ws) (length buf))

unfoldable pub capacity_called : List ℕ → List ℕ → List ℕ → Left (Unit {0})
capacity_called ws buf vs = count_called ws vs (capacity_of (loaded ws) (length buf))

unfoldable pub dropped_called : List ℕ → List ℕ → List ℕ → Left (Unit {0})
dropped_called ws buf vs = count_called ws vs (dropped_of (loaded ws) (length buf))
