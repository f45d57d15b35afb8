-- `scan_handover::hand_over` meets its contract: the part that would be taken is judged, and then taken.
use mathlib.Core.Path.{sym, ◌∙◌, subst}
use native.Mathlib.Omega.{arith}
use Rattle.scan_handover.specs.Ready.{Wants}
use Rattle.scan_handover.proofs.Places.{bounded}
use Rattle.scan_handover.proofs.Calls.{Found, held_wants, lead_small, some_taken, few_taken, within, found_refusal, found_fills, found_handed, not_handed}
use Rattle.scan_handover.proofs.hand_over.Goals as goal
use Rattle.scan_handover.proofs.hand_over.Goals.{After-takes-end}

-- what the code found of the part
found : (c : After-takes-end)
    → let a = c.args in Found a.scan a.levels.now a.samples.now a.first c.held_at-held.result c.lead-lead.result c.takes-end.result
found c = record { hands = c.requires; near = c.held_at-held.ensures; lead = c.lead-lead.ensures; end = c.takes-end.ensures }

pub lead-lead-requires : goal.lead-lead-requires
lead-lead-requires c =
    let b = bounded c.args.scan c.args.levels.now c.requires.takes in
    (b.some_decimation, b.decimation)

pub takes-end-requires : goal.takes-end-requires
takes-end-requires c =
    let a = c.args in
    let w = held_wants a.scan a.levels.now a.first c.requires.takes in
    let m = c.held_at-held.result in (
      subst (Wants a.scan.geometry) (sym c.held_at-held.ensures) w,
      omega (arith, c.lead-lead.ensures, lead_small a.scan.geometry m a.first w.bounds.some_decimation, w.bounds.decimation),
    )

pub refusal-n-requires : goal.refusal-n-requires
refusal-n-requires c =
    let a = c.args in
    let k = found c in
    let few = few_taken a.scan a.levels.now a.samples.now a.first _ _ _ k in
    (some_taken a.scan a.levels.now a.samples.now a.first _ _ _ k, within a.scan a.levels.now a.samples.now a.first _ _ _ k, omega (arith, few))

pub returns-then-n-ne0 : goal.returns-then-n-ne0
returns-then-n-ne0 c =
    let a = c.args in
    let e = not_handed a.scan a.levels.now a.samples.now a.first (found_refusal a.scan a.levels.now a.samples.now a.first _ _ _ (found (record { before = c.before.before.before; type_inv = record { samples = c.type_inv.samples; levels = c.type_inv.levels } })) c.refusal-n.ensures) c.if-n-ne0.true in
    record {
      handed = rw (← e);
      levels = rw (← e);
    }

pub between-filled-requires : goal.between-filled-requires
between-filled-requires c =
    let a = c.args in
    found_fills a.scan a.levels.now a.samples.now a.first _ _ _ (found (record { before = c.before.before.before.before; type_inv = record { samples = c.type_inv.samples; levels = c.slice_known-1.given } })) c.refusal-n.ensures c.if-n-ne0.false

pub returns : goal.returns
returns c =
    let a = c.args in
    let k = c.between-filled.ensures in
    let e = found_handed a.scan a.levels.now a.samples.now a.first _ _ _ (found (record { before = c.before.before.before.before.before.before.before.before; type_inv = record { samples = c.type_inv.samples; levels = c.slice_known-1.given } })) c.refusal-n.ensures c.if-n-ne0.false _ _ k.near k.levels in
    record {
      handed = c.answered.ensures ∙ e.0;
      levels = e.1;
    }
