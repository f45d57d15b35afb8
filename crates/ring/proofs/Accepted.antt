-- What is known of a call that is not refused.
use Prim.Native.Nat.{ℕ, ◌+◌, ◌≤◌, ◌<◌}
use mathlib.Core.Path.{◌≡◌}
use lib.Dec.{ltb, leb}
use borrow.Author.Tests.{ltb-true, leb-true}
use Rattle.answers.specs.Numbers.{limit}
use Rattle.answers.specs.Refusals.{none}
use Rattle.answers.proofs.Refusals.{passed, passed_both}
use Rattle.ring.specs.declared.Ring.{Ring}
use Rattle.ring.specs.Ring.{ring_refusal, push_refusal}

-- there is a buffer, and the count is within 2^62
pub ring_accepted : (r : Ring) (capacity : ℕ) → ring_refusal r capacity ≡ none → (0 < capacity) × (r.accepted ≤ limit)
unfolding ring_refusal
ring_accepted r capacity e =
    let a = passed (ltb 0 capacity) 1 _ e in
    let b = passed (leb r.accepted limit) 2 _ a.1 in
    (ltb-true 0 capacity a.0, leb-true r.accepted limit b.0)

-- there is a buffer, and the count stays within 2^62
pub push_accepted : (r : Ring) (capacity more : ℕ) → push_refusal r capacity more ≡ none → (0 < capacity) × (r.accepted + more ≤ limit)
unfolding push_refusal
push_accepted r capacity more e =
    let a = passed_both (ring_refusal r capacity) _ e in
    let b = passed (leb (r.accepted + more) limit) 4 _ a.1 in
    ((ring_accepted r capacity a.0).0, leb-true (r.accepted + more) limit b.0)
