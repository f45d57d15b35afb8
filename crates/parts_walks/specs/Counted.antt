-- Two logs walked by one sort of lines from open files, turn by turn.
use Rattle.std.specs.Prelude.{ℕ, ◌≡◌, List, [], ◌++◌}
use Rattle.pipes.specs.Window.{at_hand, over}
use Rattle.log_parts.specs.declared.Sort.{Sort}
use Rattle.log_passes.specs.Passing.{step_of, stepped, unbegun}
use Rattle.log_passes.specs.declared.passing.Need.TheVariants.{Goes}
use Rattle.log_passes.specs.declared.passing.Pass.{Pass}
use Rattle.log_passes.specs.declared.passing.Step.{Step}
use Rattle.parts_walks.specs.Inputs.{BothMoved}
use Rattle.parts_walks.specs.declared.inputs.Inputs.{Inputs}
use Rattle.parts_walks.specs.declared.sorts.Walk.{Walk}

-- before the first answer
abbrev pub count_opened : Inputs → Walk
count_opened i = record { pass = unbegun; inputs = i; need = Goes }

-- what is answered of the bytes at hand, and of nothing else
abbrev pub count_answered : Sort → Pass → Inputs → List ℕ → List ℕ → Step
count_answered s p i a b = stepped s p (at_hand i.first a) (over i.first) (at_hand i.second b) (over i.second)

pub record CountTurned (s : Sort) (w : Walk) (a b : List ℕ) (w' : Walk) (a' b' : List ℕ) : Type 0 where
  pub u : ℕ
  pub v : ℕ
  pub said : step_of w'.pass u v w'.need ≡ count_answered s w.pass w.inputs a b
  pub done : BothMoved u v w.inputs a b w'.inputs a' b'

-- turn after turn, in which these bytes came of each log
pub data CountTurns (s : Sort) : Walk → List ℕ → List ℕ → List ℕ → List ℕ → Walk → List ℕ → List ℕ → Type 0 where
  none : {w : Walk} {a b : List ℕ} → CountTurns s w a b [] [] w a b
  more : {w v u : Walk} {a b a₁ b₁ a₂ b₂ x y : List ℕ} → CountTurns s w a b x y v a₁ b₁ → (one : CountTurned s v a₁ b₁ u a₂ b₂)
      → CountTurns s w a b (x ++ one.done.first.came) (y ++ one.done.second.came) u a₂ b₂

pub record CountWalked (s : Sort) (w : Walk) (a b : List ℕ) (w' : Walk) (a' b' : List ℕ) : Type 0 where
  pub of_first : List ℕ
  pub of_second : List ℕ
  pub turns : CountTurns s w a b of_first of_second w' a' b'
