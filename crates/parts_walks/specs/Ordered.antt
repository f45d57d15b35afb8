-- Two logs walked in their order from open files, turn by turn.
use Rattle.std.specs.Prelude.{ℕ, ◌≡◌, List, [], ◌++◌}
use Rattle.pipes.specs.Window.{at_hand, over}
use Rattle.log_passes.specs.Beside.{beside_in}
use Rattle.log_passes.specs.declared.beside.Ask.{Ask}
use Rattle.log_passes.specs.declared.beside.Ask.TheVariants.{Goes, WantsFirst, WantsSecond, Same, Apart, Strange}
use Rattle.log_passes.specs.declared.beside.Beside.{Beside}
use Rattle.parts_walks.specs.Inputs.{BothMoved}
use Rattle.parts_walks.specs.declared.inputs.Inputs.{Inputs}
use Rattle.parts_walks.specs.declared.order.Walk.{Walk}

-- before the first answer
abbrev pub order_opened : Inputs → Walk
order_opened i = record { place = 1; inputs = i; ask = WantsFirst }

-- what is answered of the bytes at hand, and of nothing else
abbrev pub order_answered : ℕ → Inputs → List ℕ → List ℕ → Beside
order_answered place i a b = beside_in place (at_hand i.first a) (over i.first) (at_hand i.second b) (over i.second)

-- how many bytes of each log were used with an answer
abbrev pub first_used : Ask → ℕ
first_used (Goes u v) = u
first_used WantsFirst = 0
first_used WantsSecond = 0
first_used Same = 0
first_used Apart = 0
first_used Strange = 0

abbrev pub second_used : Ask → ℕ
second_used (Goes u v) = v
second_used WantsFirst = 0
second_used WantsSecond = 0
second_used Same = 0
second_used Apart = 0
second_used Strange = 0

pub record OrderTurned (w : Walk) (a b : List ℕ) (w' : Walk) (a' b' : List ℕ) : Type 0 where
  pub said : ◌≡◌ {A = Beside} (record { place = w'.place; ask = w'.ask }) (order_answered w.place w.inputs a b)
  pub done : BothMoved (first_used w'.ask) (second_used w'.ask) w.inputs a b w'.inputs a' b'

-- turn after turn, in which these bytes came of each log
pub data OrderTurns : Walk → List ℕ → List ℕ → List ℕ → List ℕ → Walk → List ℕ → List ℕ → Type 0 where
  none : {w : Walk} {a b : List ℕ} → OrderTurns w a b [] [] w a b
  more : {w v u : Walk} {a b a₁ b₁ a₂ b₂ x y : List ℕ} → OrderTurns w a b x y v a₁ b₁ → (one : OrderTurned v a₁ b₁ u a₂ b₂)
      → OrderTurns w a b (x ++ one.done.first.came) (y ++ one.done.second.came) u a₂ b₂

pub record OrderWalked (w : Walk) (a b : List ℕ) (w' : Walk) (a' b' : List ℕ) : Type 0 where
  pub of_first : List ℕ
  pub of_second : List ℕ
  pub turns : OrderTurns w a b of_first of_second w' a' b'
