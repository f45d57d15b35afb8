-- The walk by one sort, turn after turn.
use Prim.Native.Nat.{ℕ}
use mathlib.Core.List.{List, []}
use Rattle.log_parts.specs.declared.Sort.{Sort}
use Rattle.parts_walks.specs.Counted.{CountTurned, CountWalked, none, more}
use Rattle.parts_walks.specs.declared.sorts.Walk.{Walk}

pub begun : (s : Sort) (w : Walk) (a b : List ℕ) → CountWalked s w a b w a b
begun s w a b = record { of_first = []; of_second = []; turns = none }

pub goes_on : {s : Sort} {w v u : Walk} {a b a₁ b₁ a₂ b₂ : List ℕ} → CountWalked s w a b v a₁ b₁ → CountTurned s v a₁ b₁ u a₂ b₂ → CountWalked s w a b u a₂ b₂
goes_on before one = record { of_first = _; of_second = _; turns = more before.turns one }
