-- `Ring::push` meets its contract: a refused push leaves ring and buffer, another stays within 2^62 and stores every sample.
use mathlib.Core.Path.{sym, ◌∙◌}
use native.Mathlib.Omega.{arith}
use Rattle.answers.proofs.Cases.{cases}
use Rattle.ring.specs.Ring.{changed, pushed_buf}
use Rattle.ring.proofs.Accepted.{push_accepted}
use Rattle.ring.proofs.Ring.push.Goals as goal

pub returns-then-number-ne0 : goal.returns-then-number-ne0
unfolding changed pushed_buf
returns-then-number-ne0 c = search (cases, ← c.push_refusal-number.ensures)

pub store_all-requires : goal.store_all-requires
store_all-requires c = push_accepted _ _ _ (sym c.push_refusal-number.ensures ∙ c.if-number-ne0.false)

pub overflow_add-result : goal.overflow_add-result
overflow_add-result c =
    omega (arith, (push_accepted _ _ _ (sym c.push_refusal-number.ensures ∙ c.if-number-ne0.false)).1)

pub returns : goal.returns
unfolding changed pushed_buf
returns c =
    let k = c.push_refusal-number.ensures in
    (search (cases, ← k), c.store_all.ensures ∙ search (cases, ← k))
