-- What a stream's own calls add up to, one after the other: for a reader's accounts of it.
use Rattle.std.specs.Prelude.{ℕ, List, [], ◌∷◌}
use Rattle.scan.specs.State.{World}
use Rattle.scan.specs.Steps.{Call, called}
use Rattle.scan.specs.Streams.{Item, own, foreign}

-- `count a w c` is the account a after the call c on w
unfoldable pub along : {A : Type 0} (count : A → World → Call → A) → A → ℕ → World → List Item → A
along count a slack w [] = a
along count a slack w (own c ∷ items) = along count (count a w c) slack (called slack w c).world items
along count a slack w (foreign v c ∷ items) = along count a slack w items
