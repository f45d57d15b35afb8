-- `search (cases, ← e ..)` answers a `return` of a function whose contract is `r ≡ definition ..`, under `unfolding definition`. Each e is what a
-- callee ensures, result ≡ its definition, and puts the callee's result in the place of its definition; each `pick` is then settled by
-- the test of a branch that led there, which `search` finds.
use Prim.Native.Nat.{ℕ}
use mathlib.Core.Bool.{true, false}
use mathlib.Core.Path.{◌≡◌}
use native.Mathlib.Omega.{arith}
use lib.Dec.{ltb}
use borrow.Author.Tests.{lt-ltb, le-ltb, le-leb, lt-leb, eq-eqb, ne_eqb, not-true, not-false}
use Rattle.answers.specs.Pick.{pick_true, pick_false}

-- `n == 0` of the code, where the definition says `0 < n`
pub none_ltb : (n : ℕ) → n ≡ 0 → ltb 0 n ≡ false
none_ltb n e = le-ltb 0 n (omega (arith, e))

pub some_ltb : (n : ℕ) → (n ≡ 0 → ⊥) → ltb 0 n ≡ true
some_ltb n e = lt-ltb 0 n (omega (arith, e))

pub ruleset picks = (pick_true, pick_false)

pub ruleset tests = (lt-ltb, le-ltb, le-leb, lt-leb, eq-eqb, ne_eqb, none_ltb, some_ltb)

pub ruleset cases = (pick_true, pick_false, tests, not-true, not-false)
