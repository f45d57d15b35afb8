-- `fine_handover::push_near_run` meets its contract.
use mathlib.Core.Path.{sym, ◌∙◌}
use Rattle.fine_handover.proofs.Calls.{not_handed, is_empty, some_of_them, fits_state, fits_frame, handed_state, handed_near}
use Rattle.fine_handover.proofs.push_near_run.Goals as goal

pub returns-then-number-ne0 : goal.returns-then-number-ne0
returns-then-number-ne0 c =
    let a = c.args in
    let e = not_handed a.fine a.near.now a.samples.now c.refusal-number.ensures c.if-number-ne0.true in
    record {
      handed = rw (← e);
      near = rw (← e);
    }

pub returns-then-samples-eq0 : goal.returns-then-samples-eq0
returns-then-samples-eq0 c =
    let a = c.args in
    let e = is_empty a.fine a.near.now a.samples.now c.refusal-number.ensures c.if-number-ne0.false c.if-samples-eq0.true in
    record {
      handed = rw (← e);
      near = rw (← e);
    }

pub fill-requires : goal.fill-requires
fill-requires c =
    let a = c.args in
    let z = sym c.refusal-number.ensures ∙ c.if-number-ne0.false in
    let some = c.if-samples-eq0.false in
    let e = c.takes-n.ensures in
    (fits_frame a.fine a.near.now a.samples.now z some _ e, some_of_them a.fine a.near.now a.samples.now z some _ e)

pub answered-requires : goal.answered-requires
answered-requires c =
    let a = c.args in
    let z = sym c.refusal-number.ensures ∙ c.if-number-ne0.false in
    fits_state a.fine a.near.now a.samples.now z c.if-samples-eq0.false _ c.takes-n.ensures

pub returns : goal.returns
returns c =
    let a = c.args in
    let z = sym c.refusal-number.ensures ∙ c.if-number-ne0.false in
    let some = c.if-samples-eq0.false in
    let e = c.takes-n.ensures in
    record {
      handed = c.answered.ensures ∙ handed_state a.fine a.near.now a.samples.now z some _ e;
      near = c.fill.ensures ∙ handed_near a.fine a.near.now a.samples.now z some _ e;
    }
