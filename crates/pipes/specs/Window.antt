-- The bytes at hand of an input, and what a refill does to them.
use Rattle.std.specs.Prelude.{ℕ, ◌+◌, ◌-◌, ◌≤◌, ◌≡◌, Bool, false, List, [], ◌++◌, eqb, length, take, drop}
use Rattle.pipes.specs.declared.window.Window.{Window}

-- a window into a room of 65,536 bytes
pub record Within (w : Window) : Type 0 where
  pub order : w.at ≤ w.end
  pub inside : w.end ≤ 65536

abbrev pub at_hand : Window → List ℕ → List ℕ
at_hand w room = take (w.end - w.at) (drop w.at room)

-- Some bytes came behind those at hand, and no more than were left. Fewer are left than before.
pub record Grown (w : Window) (room : List ℕ) (w' : Window) (room' : List ℕ) : Type 0 where
  pub within : Within w'
  pub more : List ℕ
  pub joins : at_hand w' room' ≡ at_hand w room ++ more
  pub counts : length more + w'.left ≤ w.left
  pub falls : w'.left ≤ w.left - 1

-- no byte comes behind those at hand
abbrev pub over : Window → Bool
over w = eqb w.left 0

-- So many of the bytes at hand are used, and some came behind the others, no more than were left.
pub record Moved (used : ℕ) (w : Window) (room : List ℕ) (w' : Window) (room' : List ℕ) : Type 0 where
  pub within : Within w'
  pub came : List ℕ
  pub joins : at_hand w' room' ≡ drop used (at_hand w room) ++ came
  pub counts : length came + w'.left ≤ w.left

-- The same; bytes came only where the input is read on.
pub record Went (reads : Bool) (used : ℕ) (w : Window) (room : List ℕ) (w' : Window) (room' : List ℕ) : Type 0 where
  pub moved : Moved used w room w' room'
  pub none : reads ≡ false → moved.came ≡ []
