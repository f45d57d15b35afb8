-- Request k: "accept a log or name the first wrong line and the line that should stand there". What is printed: `accepted`, or three lines with the number of the first wrong line, the
-- first of a log being 1, what stands there and what should. Of a line that stands there no more is shown than a line of a log can have.
use Rattle.std.specs.Prelude.{ℕ, List, [], ◌∷◌, ◌++◌, leb, length, take}
use Rattle.answers.specs.Pick.{pick}
use Rattle.log_lines.specs.Text.{ascii, decimal}
use Rattle.log_text.specs.Text.{newline}
use Rattle.log_text.specs.Apart.{Side, Nothing, There, Apart, Same, At}
use Rattle.log_text.specs.Shown.{ended, shown_text}

unfoldable pub place_text : ℕ → List ℕ
place_text k = ascii "wrong at line " ++ decimal k ++ ended

unfoldable pub stands_text : Side → List ℕ
stands_text Nothing = ascii "stands nothing" ++ ended
stands_text (There t) = ascii "stands: " ++ shown_text t

unfoldable pub should_text : Side → List ℕ
should_text Nothing = ascii "should stand nothing" ++ ended
should_text (There t) = ascii "should stand: " ++ t ++ ended

unfoldable pub apart_text : Apart → List ℕ
apart_text Same = ascii "accepted" ++ ended
apart_text (At k x y) = place_text k ++ stands_text x ++ should_text y
