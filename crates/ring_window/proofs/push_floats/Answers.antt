-- `ring_window::push_floats` meets its contract.
use Prim.Native.Nat.{◌+◌, ◌≤◌, ◌<◌}
use mathlib.Core.Path.{◌≡◌}
use native.Mathlib.Omega.{arith}
use lib.ListN.{length}
use Rattle.answers.specs.Numbers.{limit}
use Rattle.ring.specs.Ring.{push_refusal}
use Rattle.ring.proofs.Accepted.{ring_accepted}
use Rattle.ring_window.proofs.Answers.{is_refused_lem, is_accepted_lem, push_refused, push_done, push_first, push_passes, push_too_many}
use Rattle.ring_window.proofs.push_floats.Goals as goal

pub overflow_sub-accepted : goal.overflow_sub-accepted
overflow_sub-accepted c =
    let a = c.args in
    let h = is_accepted_lem a.ring (length a.buf.now) _ c.next_abs-next.ensures _ c.in-Is.is in
    let r = ring_accepted a.ring (length a.buf.now) h.0 in
    omega (arith, h.1, r.1)

pub returns-then-samples-accepted : goal.returns-then-samples-accepted
returns-then-samples-accepted c =
    let a = c.args in
    let h = is_accepted_lem a.ring (length a.buf.now) _ c.next_abs-next.ensures _ c.in-Is.is in
    let r = ring_accepted a.ring (length a.buf.now) h.0 in
    let most : limit < a.ring.accepted + length a.samples.now = omega (arith, h.1, r.1, c.if-samples-accepted.true) in
    let e = push_too_many a.ring a.buf.now a.samples.now h.0 most in let parts = push_refused a.ring a.buf.now a.samples.now 5 (λ (z : push_refusal a.ring (length a.buf.now) (length a.samples.now) ≡ 0). omega (arith, e, z)) e in record { answer = parts.0; buf = parts.1 }

pub store_all-requires : goal.store_all-requires
store_all-requires c =
    let a = c.args in
    let h = is_accepted_lem a.ring (length a.buf.now) _ c.next_abs-next.ensures _ c.in-Is.is in
    let r = ring_accepted a.ring (length a.buf.now) h.0 in
    (r.0, omega (arith, h.1, r.1, c.if-samples-accepted.false))

pub returns-in-Refused : goal.returns-in-Refused
returns-in-Refused c =
    let a = c.args in
    let h = push_first a.ring a.buf.now a.samples.now _ (is_refused_lem a.ring (length a.buf.now) _ c.next_abs-next.ensures _ c.in-Refused.is) in let parts = push_refused a.ring a.buf.now a.samples.now _ h.0 h.1 in record { answer = parts.0; buf = parts.1 }

pub returns-else-samples-accepted : goal.returns-else-samples-accepted
returns-else-samples-accepted c =
    let a = c.args in
    let h = is_accepted_lem a.ring (length a.buf.now) _ c.next_abs-next.ensures _ c.in-Is.is in
    let r = ring_accepted a.ring (length a.buf.now) h.0 in
    let within : a.ring.accepted + length a.samples.now ≤ limit = omega (arith, h.1, r.1, c.if-samples-accepted.false) in let parts = push_done a.ring a.buf.now a.samples.now _ _ (push_passes a.ring a.buf.now a.samples.now h.0 within) h.1 c.store_all.ensures in record { answer = parts.0; buf = parts.1 }
