-- What is known where a test that a definition names has passed.
use Prim.Native.Nat.{ℕ, ◌≤◌}
use mathlib.Core.Path.{◌≡◌, refl}
use mathlib.Core.Bool.{Bool, true, false, false≢true}
use lib.Dec.{leb}
use borrow.Author.Tests.{leb-true}
use Rattle.answers.specs.Pick.{pick, both}
use Rattle.answers.specs.Numbers.{within}

pub both_true : (a b : Bool) → both a b ≡ true → (a ≡ true) × (b ≡ true)
unfolding pick
both_true true b e = (refl, e)
both_true false b e = absurd (false≢true e)

pub within_most : (lo hi n : ℕ) → within lo hi n ≡ true → n ≤ hi
within_most lo hi n e = leb-true n hi (both_true (leb lo n) (leb n hi) e).1
