-- Request b: "names the first differing line of each sort .. with both texts, then the number of differing frames and cycles by number .. Equal logs give the single line `same`".
use Rattle.std.specs.Prelude.{ℕ, Bool, true, false, List, [], ◌∷◌, ◌++◌, leb, length, take, Option, Some, None}
use Rattle.answers.specs.Pick.{pick, both}
use Rattle.log_lines.specs.declared.Line.{Line}
use Rattle.log_lines.specs.Text.{ascii, decimal}
use Rattle.log_lines.specs.Lines.{text_of}
use Rattle.log_text.specs.Text.{newline}
use Rattle.log_text.specs.Shown.{ended, shown_text}
use Rattle.log_parts.specs.Named.{line_in}
use Rattle.log_parts.specs.Parts as parts
use Rattle.log_parts.specs.declared.Difference.{Difference}
use Rattle.log_parts.specs.declared.Report.{Report}

-- ---- each sort that differs: a heading, the first log's line and the second's

unfoldable pub side_words : Option Line → List ℕ
side_words None = ascii "nothing"
side_words (Some l) = text_of l

unfoldable pub marked_text : List ℕ → Option Line → List ℕ
marked_text mark s = mark ++ side_words s

unfoldable pub differ_text : Option Line → Option Line → List ℕ
differ_text x y = marked_text (newline ∷ ascii "< ") x ++ marked_text (newline ∷ ascii "> ") y ++ ended

unfoldable pub section_text : List ℕ → Option Difference → List ℕ
section_text heading None = []
section_text heading (Some d) = heading ++ differ_text d.first d.second

unfoldable pub sections_text : Report → List ℕ
sections_text r =
    section_text (ascii "header") r.headers
    ++ section_text (ascii "frame") r.frames
    ++ section_text (ascii "cycle") r.cycles
    ++ section_text (ascii "refusal") r.refusals
    ++ section_text (ascii "closing") r.closings

-- ---- where no sort differs, the first line in which the logs are not the same

unfoldable pub alike : Option Difference → Bool
alike None = true
alike (Some d) = false

unfoldable pub all_alike : Report → Bool
all_alike r = both (alike r.headers) (both (alike r.frames) (both (alike r.cycles) (both (alike r.refusals) (alike r.closings))))

unfoldable pub place_text : ℕ → List ℕ
place_text place = ascii "order: line " ++ decimal place ++ ended

unfoldable pub order_text : Report → List ℕ
order_text r = pick (all_alike r) (place_text r.place) []

-- ---- the counts are always the last line

unfoldable pub counts_text : ℕ → ℕ → List ℕ
counts_text frames cycles = ascii "differing frames " ++ decimal frames ++ ascii " cycles " ++ decimal cycles ++ ended

unfoldable pub report_text : Report → List ℕ
report_text r = sections_text r ++ order_text r ++ counts_text r.differing_frames r.differing_cycles

-- ---- a line that is none of a log: its file and place, and the line, of which no more is shown than a line of a log can have

-- a line of a log is refused only because its number does not rise
abbrev pub why_by : Option Line → List ℕ
why_by (Some l) = ascii "number does not rise: "
why_by None = []

unfoldable pub why_text : List ℕ → List ℕ
why_text t = why_by (line_in t)

unfoldable pub where_text : List ℕ → ℕ → List ℕ
where_text name place = ascii "refused 8: " ++ name ++ (ascii " line " ++ decimal place) ++ ascii ": "

unfoldable pub strange_text : List ℕ → ℕ → List ℕ → List ℕ
strange_text name place t = where_text name place ++ why_text t ++ shown_text t

-- ---- all that is told, of two logs in files of these names

abbrev pub name_of : List ℕ → List ℕ → ℕ → List ℕ
name_of m n log = pick (leb log 1) m n

unfoldable pub parted_text : List ℕ → List ℕ → parts.Parted → List ℕ
parted_text m n (parts.NotALogLine log place t) = strange_text (name_of m n log) place t
parted_text m n parts.Same = ascii "same" ++ ended
parted_text m n (parts.Parts r) = report_text r
