-- What the writer of a verdict answers and leaves: all of the text, or nothing where there is too little room for any.
use Rattle.std.specs.Prelude.{ℕ, Bool, List, [], leb, length, take, Option, Some, None}
use Rattle.std.proofs.lemmas.List.Edits.{sets}
use Rattle.answers.specs.Pick.{pick}
use Rattle.log_lines.specs.declared.Line.{Line}
use Rattle.log_lines.specs.Lines.{text_of}
use Rattle.log_text.specs.Apart.{Side, Nothing, There, Same, At}
use Rattle.log_text.specs.Cut.{cut_of}
use Rattle.log_text.specs.declared.Piece.{Piece}
use Rattle.log_text.specs.declared.Piece.TheVariants as piece
use Rattle.log_hold.specs.declared.Verdict.{Verdict}
use Rattle.log_hold.specs.declared.Verdict.TheVariants as verdict
use Rattle.log_says.specs.Says.{apart_text}

-- what should stand
abbrev pub due_side : Option Line → Side
due_side (Some l) = There (text_of l)
due_side None = Nothing

-- what stands at the front of the bytes at hand; of a line longer than any of a log, that are all of them
abbrev pub piece_side : List ℕ → Piece → Side
piece_side hand (piece.Line n) = There (take n hand)
piece_side hand (piece.Last n) = There (take n hand)
piece_side hand piece.Long = There hand
piece_side hand piece.Wants = There hand
piece_side hand piece.Over = Nothing

unfoldable pub side_at : List ℕ → Bool → Side
side_at hand ended = piece_side hand (cut_of hand ended)

-- of a log that is still held against its lines nothing is said
unfoldable pub said_text : ℕ → Verdict → List ℕ → Bool → List ℕ
said_text line verdict.Going hand ended = []
said_text line verdict.Accepted hand ended = apart_text Same
said_text line (verdict.Wrong d) hand ended = apart_text (At line (side_at hand ended) (due_side d))

-- no verdict asks for more
abbrev pub room : ℕ
room = 256

unfoldable pub said : ℕ → Verdict → List ℕ → Bool → List ℕ → Option ℕ
said line v hand ended out = pick (leb room (length out)) (Some (length (said_text line v hand ended))) None

unfoldable pub said_out : ℕ → Verdict → List ℕ → Bool → List ℕ → List ℕ
said_out line v hand ended out = pick (leb room (length out)) (sets out 0 (said_text line v hand ended)) out
