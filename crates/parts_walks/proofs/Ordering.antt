-- The walk in order, turn after turn.
use Prim.Native.Nat.{ℕ}
use mathlib.Core.List.{List, []}
use Rattle.parts_walks.specs.Ordered.{OrderTurned, OrderWalked, none, more}
use Rattle.parts_walks.specs.declared.order.Walk.{Walk}

pub begun : (w : Walk) (a b : List ℕ) → OrderWalked w a b w a b
begun w a b = record { of_first = []; of_second = []; turns = none }

pub goes_on : {w v u : Walk} {a b a₁ b₁ a₂ b₂ : List ℕ} → OrderWalked w a b v a₁ b₁ → OrderTurned v a₁ b₁ u a₂ b₂ → OrderWalked w a b u a₂ b₂
goes_on before one = record { of_first = _; of_second = _; turns = more before.turns one }
