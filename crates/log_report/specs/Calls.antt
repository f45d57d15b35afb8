-- What the two writers answer and leave, in the manner of `written`: all of the text, or nothing where there is too little room for any.
use Rattle.std.specs.Prelude.{ℕ, ◌+◌, List, leb, length, Option, Some, None}
use Rattle.std.proofs.lemmas.List.Edits.{sets}
use Rattle.answers.specs.Pick.{pick}
use Rattle.log_parts.specs.declared.Report.{Report}
use Rattle.log_report.specs.Texts.{report_text, strange_text}

-- the room that is asked for: no report is longer, and of a refusal nothing but the name can be long
abbrev pub report_room : ℕ
report_room = 1024

abbrev pub refusal_room : List ℕ → ℕ
refusal_room name = length name + 140

unfoldable pub reported : Report → List ℕ → Option ℕ
reported r out = pick (leb report_room (length out)) (Some (length (report_text r))) None

unfoldable pub reported_out : Report → List ℕ → List ℕ
reported_out r out = pick (leb report_room (length out)) (sets out 0 (report_text r)) out

unfoldable pub refused_as : List ℕ → ℕ → List ℕ → List ℕ → Option ℕ
refused_as name place t out = pick (leb (refusal_room name) (length out)) (Some (length (strange_text name place t))) None

unfoldable pub refused_out : List ℕ → ℕ → List ℕ → List ℕ → List ℕ
refused_out name place t out = pick (leb (refusal_room name) (length out)) (sets out 0 (strange_text name place t)) out
