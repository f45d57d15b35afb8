-- `scan_push::far::refusal` meets its contract: the refusals in their order.
use Prim.Native.Nat.{ℕ}
use mathlib.Core.Path.{◌≡◌, refl, sym, ap, ◌∙◌}
use native.Mathlib.Omega.{arith}
use lib.Dec.{eqb}
use borrow.Author.Tests.{le-leb, lt-leb}
use lib.ListN.{length}
use Rattle.scan.specs.Bins.{envelope_len}
use Rattle.scan.specs.State.{first_refusals, due}
use Rattle.scan.specs.Calls.{far_refusal}
use Rattle.scan_calls.proofs.Chains.{yes, no, refuses, passes, earlier, later}
use Rattle.scan_push.proofs.Pushing.{room}
use Rattle.scan_push.proofs.far.refusal.Goals as goal
use Rattle.scan_push.proofs.far.refusal.Goals.{After-first_refusals-n}

-- 1 to 3
first : (c : After-first_refusals-n) → let a = c.args in c.first_refusals-n.result ≡ first_refusals a.scan (eqb (length a.envelope.now) (envelope_len a.slack (due a.scan)))
first c =
    let a = c.args in
    c.first_refusals-n.ensures ∙ ap (λ (n : ℕ). first_refusals a.scan (eqb (length a.envelope.now) n)) (c.envelope_len.ensures ∙ ap (envelope_len a.slack) c.geometry_of-due.ensures.is)

pub returns-then-n-ne0 : goal.returns-then-n-ne0
unfolding far_refusal
returns-then-n-ne0 c = earlier (first (record { before = c.before.before; type_inv = record { samples = c.type_inv.samples; envelope = c.type_inv.envelope } })) _ c.if-n-ne0.true

pub overflow_add-scan : goal.overflow_add-scan
overflow_add-scan c =
    let h = room c.args.scan _ (sym (first (record { before = c.before.before.before; type_inv = record { samples = c.type_inv.samples; envelope = c.type_inv.envelope } })) ∙ c.if-n-ne0.false) in
    record { fits = omega (arith, h, c.well_formed) }

pub returns-then-scan-samples-gt-LIMIT : goal.returns-then-scan-samples-gt-LIMIT
unfolding far_refusal
returns-then-scan-samples-gt-LIMIT c =
    later (first (record { before = c.before.before.before.before; type_inv = record { samples = c.type_inv.samples; envelope = c.type_inv.envelope } })) c.if-n-ne0.false (no refl _ (lt-leb _ _ c.if-scan-samples-gt-LIMIT.true) refl)

pub returns-then-not-all_finite : goal.returns-then-not-all_finite
unfolding far_refusal
returns-then-not-all_finite c =
    later (first (record { before = c.before.before.before.before.before.before; type_inv = record { samples = c.type_inv.samples; envelope = c.type_inv.envelope } })) c.if-n-ne0.false (yes refl _ (le-leb _ _ c.if-scan-samples-gt-LIMIT.false) (refuses c.all_finite.ensures 4 _ c.if-not-all_finite.true-raw))

pub returns : goal.returns
unfolding far_refusal
returns c =
    later (first (record { before = c.before.before.before.before.before.before; type_inv = record { samples = c.type_inv.samples; envelope = c.type_inv.envelope } })) c.if-n-ne0.false (yes refl _ (le-leb _ _ c.if-scan-samples-gt-LIMIT.false) (passes c.all_finite.ensures 4 c.if-not-all_finite.false-raw refl))
