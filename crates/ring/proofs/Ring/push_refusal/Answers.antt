-- `Ring::push_refusal` meets its contract. It asks whether the samples fit in what is left of 2^62, where the definition asks for the sum.
use Prim.Native.Nat.{ℕ, ◌+◌, ◌-◌, ◌≤◌, ◌<◌}
use mathlib.Core.Path.{◌≡◌, sym, ◌∙◌}
use mathlib.Core.Bool.{true, false}
use native.Mathlib.Omega.{arith}
use lib.Dec.{leb}
use borrow.Author.Tests.{le-leb, lt-leb}
use Rattle.answers.proofs.Cases.{cases}
use Rattle.ring.specs.Ring.{push_refusal}
use Rattle.ring.proofs.Accepted.{ring_accepted}
use Rattle.ring.proofs.Ring.push_refusal.Goals as goal

passes : (a n most : ℕ) → most - a < n → leb (a + n) most ≡ false
passes a n most h = let g : most < a + n = omega arith in lt-leb (a + n) most g

stays : (a n most : ℕ) → a ≤ most → n ≤ most - a → leb (a + n) most ≡ true
stays a n most k h = let g : a + n ≤ most = omega arith in le-leb (a + n) most g

pub returns-then-earlier-ne0 : goal.returns-then-earlier-ne0
unfolding push_refusal
returns-then-earlier-ne0 c = search (cases, ← c.refusal-earlier.ensures)

pub overflow_sub-self : goal.overflow_sub-self
overflow_sub-self c = omega (arith, (ring_accepted _ _ (sym c.refusal-earlier.ensures ∙ c.if-earlier-ne0.false)).1)

pub returns-then-count-self : goal.returns-then-count-self
unfolding push_refusal
returns-then-count-self c = search (cases, passes, ← c.refusal-earlier.ensures)

pub returns : goal.returns
unfolding push_refusal
returns c =
    let fine = ring_accepted _ _ (sym c.refusal-earlier.ensures ∙ c.if-earlier-ne0.false) in
    search (cases, stays, fine.1, ← c.refusal-earlier.ensures)
