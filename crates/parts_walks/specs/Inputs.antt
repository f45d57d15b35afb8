-- The two inputs, each behind a window.
use Rattle.std.specs.Prelude.{ℕ, List}
use Rattle.pipes.specs.Window.{Within, Moved}
use Rattle.parts_walks.specs.declared.inputs.Inputs.{Inputs}

-- each window lies inside its room
pub record BothWithin (i : Inputs) : Type 0 where
  pub first : Within i.first
  pub second : Within i.second

pub record BothMoved (u v : ℕ) (i : Inputs) (a b : List ℕ) (i' : Inputs) (a' b' : List ℕ) : Type 0 where
  pub first : Moved u i.first a i'.first a'
  pub second : Moved v i.second b i'.second b'

-- nothing is read
abbrev pub Passed : ℕ → ℕ → Inputs → Inputs → Type 0
Passed u v i i' = (a b : List ℕ) → BothMoved u v i a b i' a b

-- one is read on, and the other stays
abbrev pub FirstRead : Inputs → List ℕ → Inputs → List ℕ → Type 0
FirstRead i a i' a' = (b : List ℕ) → BothMoved 0 0 i a b i' a' b

abbrev pub SecondRead : Inputs → List ℕ → Inputs → List ℕ → Type 0
SecondRead i b i' b' = (a : List ℕ) → BothMoved 0 0 i a b i' a b'
