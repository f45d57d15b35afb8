-- Storing keeps the length of the list.
use mathlib.Core.Path.{◌≡◌}
use Prim.Native.Nat.{ℕ}
use mathlib.Core.List.{List}
use lib.ListN.{length, length-set}
use Rattle.scan.specs.declared.Found.{Found}
use Rattle.scan.specs.declared.Found.TheVariants.{Nothing, At}
use Rattle.scan_words.specs.Layout.{stored_found}

pub found_keeps_length : (ws : List ℕ) (f : Found) → length (stored_found ws f) ≡ length ws
unfolding stored_found
found_keeps_length ws Nothing = simp length-set
found_keeps_length ws (At r) = simp length-set
