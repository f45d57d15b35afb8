-- What stands at the front of the bytes at hand, by the piece that is cut of them.
use mathlib.Core.Path.{◌≡◌, sym, ap, ◌∙◌}
use mathlib.Core.Bool.{Bool}
use mathlib.Core.List.{List}
use Prim.Native.Nat.{ℕ}
use Rattle.log_text.specs.Cut.{cut_of}
use Rattle.log_text.specs.declared.Piece.{Piece}
use Rattle.log_says.specs.Calls.{piece_side, side_at}

pub stands_by : (hand : List ℕ) (e : Bool) {p q : Piece} → p ≡ q → p ≡ cut_of hand e → piece_side hand q ≡ side_at hand e
unfolding side_at
stands_by hand e is c = ap (piece_side hand) (sym is ∙ c)
