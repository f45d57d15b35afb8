-- `scan_push::far::push` meets its contract.
use mathlib.Core.Path.{sym, ◌∙◌}
use Rattle.scan_push.proofs.Calls.{not_heard, is_heard}
use Rattle.scan_push.proofs.Pushing.{hears_all}
use Rattle.scan_push.proofs.far.push.Goals as goal

pub returns-then-number-ne0 : goal.returns-then-number-ne0
returns-then-number-ne0 c =
    let a = c.args in
    let e = not_heard a.slack a.scan a.envelope.now a.samples.now c.refusal-number.ensures c.if-number-ne0.true in
    record {
      changed = rw (← e, c.refused.ensures);
      envelope = rw (← e);
    }

pub hear_all-heard-requires : goal.hear_all-heard-requires
hear_all-heard-requires c =
    let a = c.args in
    hears_all a.slack a.scan a.envelope.now a.samples.now (sym c.refusal-number.ensures ∙ c.if-number-ne0.false)

pub returns : goal.returns
returns c =
    let a = c.args in
    let e = is_heard a.slack a.scan a.envelope.now a.samples.now c.refusal-number.ensures c.if-number-ne0.false in
    let k = c.hear_all-heard.ensures in
    record {
      changed = rw (← e, c.done.ensures, c.with_far.ensures, k.far);
      envelope = rw (← e, k.envelope);
    }
