-- What the functions behind a window ask for and leave.
use Rattle.std.specs.Prelude.{ℕ, ◌+◌, ◌-◌, ◌%◌, ◌≤◌, ◌<◌, min, ◌≡◌, List, ◌++◌, take, drop, replicate}
use Rattle.ring_window.specs.declared.Cut.{Cut}

-- A window of n places, cut where the ring begins and ends: `head` and `tail` places are missing; between them lie `run` places of the buffer from `slot` on, and then `wrapped` from its start on.
pub record Cuts (accepted capacity at back n : ℕ) (c : Cut) : Type 0 where
  pub head : c.head ≡ min n (back + (accepted - capacity) - at)
  pub tail : c.tail ≡ n - min n (back + accepted - at)
  pub whole : c.head + (c.run + c.wrapped) + c.tail ≡ n
  pub inside : c.slot + c.run ≤ capacity
  pub around : c.wrapped ≤ capacity
  pub runs : (j : ℕ) → j < c.run → (at + (c.head + j) - back) % capacity ≡ c.slot + j
  pub wraps : (j : ℕ) → j < c.wrapped → (at + (c.head + (c.run + j)) - back) % capacity ≡ j

-- The buffer and the window are long enough for it.
pub record Fitting (capacity n : ℕ) (c : Cut) : Type 0 where
  pub whole : c.head + (c.run + c.wrapped) + c.tail ≡ n
  pub inside : c.slot + c.run ≤ capacity
  pub around : c.wrapped ≤ capacity

-- What stands in such a window.
abbrev pub pieces : Cut → List ℕ → List ℕ
pieces c buf = replicate c.head 0 ++ take c.run (drop c.slot buf) ++ take c.wrapped buf ++ replicate c.tail 0
