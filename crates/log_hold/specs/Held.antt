-- Request k: what stands next in a log, beside what should stand there.
use Rattle.std.specs.Prelude.{ℕ, ◌+◌, Bool, true, false, List, take, Option, Some, None}
use Rattle.answers.specs.Pick.{pick}
use Rattle.log_lines.specs.declared.Line.{Line}
use Rattle.log_lines.specs.Lines.{text_of}
use Rattle.log_text.specs.Text.{same_text}
use Rattle.log_text.specs.Cut.{cut_of}
use Rattle.log_text.specs.declared.Piece.{Piece}
use Rattle.log_text.specs.declared.Piece.TheVariants as piece
use Rattle.log_hold.specs.declared.Stands.{Stands}
use Rattle.log_hold.specs.declared.Stands.TheVariants.{Right, Wrong, Wants, Over}

-- Of the bytes at hand the next line is cut. A line is right where its text is that line's, whole; it is used up with its newline, if it has one.
abbrev pub standing : Option Line → List ℕ → Piece → Stands
standing (Some l) hand (piece.Line n) = pick (same_text (take n hand) (text_of l)) (Right (n + 1)) Wrong
standing (Some l) hand (piece.Last n) = pick (same_text (take n hand) (text_of l)) (Right n) Wrong
standing (Some l) hand piece.Long = Wrong
standing (Some l) hand piece.Wants = Wants
standing (Some l) hand piece.Over = Wrong
standing None hand (piece.Line n) = Wrong
standing None hand (piece.Last n) = Wrong
standing None hand piece.Long = Wrong
standing None hand piece.Wants = Wants
standing None hand piece.Over = Over

unfoldable pub held : Option Line → List ℕ → Bool → Stands
held d hand ended = standing d hand (cut_of hand ended)

abbrev pub wanting : Stands → Bool
wanting (Right n) = false
wanting Wrong = false
wanting Wants = true
wanting Over = false
