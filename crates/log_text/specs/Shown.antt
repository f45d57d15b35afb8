-- A text as it is shown to a reader: no more of it than a line of a log can have.
use Rattle.std.specs.Prelude.{ℕ, List, [], ◌∷◌, ◌++◌, leb, length, take}
use Rattle.answers.specs.Pick.{pick}
use Rattle.log_lines.specs.Text.{ascii}
use Rattle.log_text.specs.Text.{newline}
use Rattle.log_text.specs.Cut.{longest}

abbrev pub ended : List ℕ
ended = newline ∷ []

unfoldable pub shown_text : List ℕ → List ℕ
shown_text t = pick (leb (length t) longest) (t ++ ended) (take longest t ++ (ascii " .." ++ ended))
