-- The same while the log is read: some bytes come behind those at hand, until what stands next is known.
use Rattle.std.specs.Prelude.{ℕ, ◌+◌, ◌≤◌, ◌≡◌, false, List, ◌++◌, length, drop, Option}
use Rattle.answers.specs.Numbers.{next_long_count}
use Rattle.pipes.specs.Window.{Within, at_hand, over}
use Rattle.pipes.specs.declared.window.Window.{Window}
use Rattle.log_lines.specs.declared.Line.{Line}
use Rattle.log_hold.specs.Held.{held, wanting}
use Rattle.log_hold.specs.declared.Stands.{Stands}
use Rattle.log_hold.specs.declared.Stands.TheVariants.{Right, Wrong, Wants, Over}
use Rattle.log_hold.specs.declared.Verdict.TheVariants as verdict
use Rattle.log_hold.specs.declared.Check.{Check}

-- what stands in the log that a window looks into
abbrev pub seen : Option Line → Window → List ℕ → Stands
seen d w room = held d (at_hand w room) (over w)

pub record Sought (d : Option Line) (w : Window) (room : List ℕ) (w' : Window) (room' : List ℕ) (s : Stands) : Type 0 where
  pub within : Within w'
  pub more : List ℕ
  pub joins : at_hand w' room' ≡ at_hand w room ++ more
  pub counts : length more + w'.left ≤ w.left
  pub stands : s ≡ seen d w' room'

-- a line that is right is passed; else the log stays where the wrong line is, or at its end
abbrev pub After : Stands → Check → Option Line → Window → List ℕ → Check → Type 0
After (Right n) c d w room c' = (Within c'.log) × (at_hand c'.log room ≡ drop n (at_hand w room)) × (c'.log.left ≤ w.left) × (c'.line ≡ next_long_count c.line) × (c'.verdict ≡ verdict.Going)
After Wrong c d w room c' = (c'.log ≡ w) × (c'.line ≡ c.line) × (c'.verdict ≡ verdict.Wrong d)
After Wants c d w room c' = ⊥
After Over c d w room c' = (c'.log ≡ w) × (c'.line ≡ c.line) × (c'.verdict ≡ verdict.Accepted)

-- whatever room the window looks into
abbrev pub Goes : Stands → Check → Option Line → Window → Check → Type 0
Goes s c d w c' = wanting s ≡ false → (room : List ℕ) → After s c d w room c'

pub record Held (c : Check) (d : Option Line) (room : List ℕ) (c' : Check) (room' : List ℕ) : Type 0 where
  pub window : Window
  pub stands : Stands
  pub sought : Sought d c.log room window room' stands
  pub after : After stands c d window room' c'
