-- What is known where a chain of refusals, `require rule number rest`, comes to 0: every rule of it holds.
use Prim.Native.Nat.{ℕ, suc}
use mathlib.Core.Path.{◌≡◌, refl}
use mathlib.Core.Bool.{Bool, true, false}
use native.Mathlib.Omega.{arith}
use lib.Dec.{eqb}
use Rattle.answers.specs.Pick.{pick}
use Rattle.answers.specs.Refusals.{require, before}
use borrow.Author.Tests.{eqb-true, eqb-false}

pub passed : (t : Bool) (n rest : ℕ) → require t (suc n) rest ≡ 0 → (t ≡ true) × (rest ≡ 0)
unfolding pick
passed true n rest e = (refl, e)
passed false n rest e = absurd (omega (arith, e))

passed_both' : (t : Bool) (n rest : ℕ) → eqb n 0 ≡ t → pick t rest n ≡ 0 → (n ≡ 0) × (rest ≡ 0)
unfolding pick
passed_both' true n rest p e = (eqb-true n 0 p, e)
passed_both' false n rest p e = absurd (eqb-false n 0 p e)

-- a chain that goes on where an earlier one refuses nothing
pub passed_both : (n rest : ℕ) → before n rest ≡ 0 → (n ≡ 0) × (rest ≡ 0)
passed_both n rest e = passed_both' (eqb n 0) n rest refl e
