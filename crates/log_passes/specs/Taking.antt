-- The next line of one log among the bytes at hand.
use Rattle.std.specs.Prelude.{ℕ, ◌+◌, ◌≤◌, Bool, List, length}
use Rattle.log_text.specs.Cut.{cut_of}
use Rattle.log_text.specs.declared.Piece.{Piece}
use Rattle.log_text.specs.declared.Piece.TheVariants as piece
use Rattle.log_passes.specs.declared.taking.Taken.{Taken}
use Rattle.log_passes.specs.declared.taking.Taken.TheVariants as taken

-- a line without the newline that it is used with
unfoldable pub taken_of : Piece → Taken
taken_of (piece.Line n) = taken.Text n (n + 1)
taken_of (piece.Last n) = taken.Text n n
taken_of piece.Long = taken.Long
taken_of piece.Wants = taken.Wants
taken_of piece.Over = taken.Nothing

-- a line lies among the bytes at hand
abbrev pub Inside : List ℕ → Taken → Type 0
Inside bytes (taken.Text n used) = n ≤ length bytes
Inside bytes taken.Long = Unit {0}
Inside bytes taken.Wants = Unit {0}
Inside bytes taken.Nothing = Unit {0}

unfoldable pub taken_in : List ℕ → Bool → Taken
taken_in bytes ended = taken_of (cut_of bytes ended)
