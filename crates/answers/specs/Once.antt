-- Determinism, of the contract itself: `Reads.Post` of a function is what its `ensures` says of the lifetimes, the arguments, the result and the
-- parameters at exit. A contract is determined where two results that it admits for one call are the same.
use Rattle.std.specs.Prelude.{ℕ, List, ◌≡◌}
use borrow.Fn.Kinds.{ParamKind, ResultKind, Out, Dens, res_t, ended_of}
use contract.Lifetimes.{Lfts}
use denote.Triple.Clauses.{AtExit}

abbrev pub Determined : (n : ℕ) (ps : List (ParamKind n)) (r : ResultKind n) → Out n ps r → Type 0
Determined n ps r P =
    (κs : Lfts n) (a : Dens κs ps) (v w : (res_t r κs).Denot) (x y : AtExit (ended_of n ps r) κs) → P κs a v x → P κs a w y → v ≡ w
