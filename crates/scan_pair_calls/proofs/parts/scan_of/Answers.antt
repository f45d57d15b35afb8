-- `scan_pair_calls::parts::scan_of` meets its contract.
use mathlib.Core.Path.{sym, ap, ◌∙◌}
use borrow.Author.Tests.{eq-eqb, ne_eqb}
use Rattle.answers.specs.Pick.{pick_true, pick_false}
use Rattle.scan_pair.specs.State.{Side}
use Rattle.scan_pair.specs.Calls.{scan_of}
use Rattle.scan_pair_calls.proofs.parts.scan_of.Goals as goal

pub returns-then-channel-eq0 : goal.returns-then-channel-eq0
returns-then-channel-eq0 c = c.as_scan.ensures ∙ sym (ap (λ (d : Side). scan_of c.args.pair d) (pick_true _ _ _ (eq-eqb _ _ c.if-channel-eq0.true)))

pub returns-else-channel-eq0 : goal.returns-else-channel-eq0
returns-else-channel-eq0 c = c.as_scan-else-channel-eq0.ensures ∙ sym (ap (λ (d : Side). scan_of c.args.pair d) (pick_false _ _ _ (ne_eqb _ _ c.if-channel-eq0.false)))
