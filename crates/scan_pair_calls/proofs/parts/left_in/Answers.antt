-- `scan_pair_calls::parts::left_in` meets its contract.
use mathlib.Core.Path.{sym, ap, ◌∙◌}
use borrow.Author.Tests.{eq-eqb, ne_eqb}
use Rattle.answers.specs.Pick.{pick_true, pick_false}
use Rattle.scan_pair.specs.State.{Side}
use Rattle.scan_pair.specs.Calls.{left_in}
use Rattle.scan_pair.specs.State.{first, second, with_channel}
use Rattle.scan_pair.specs.declared.Channel.{Channel}
use Rattle.scan_pair_calls.proofs.parts.left_in.Goals as goal

pub returns-then-channel-eq0 : goal.returns-then-channel-eq0
returns-then-channel-eq0 c = ap (λ (k : Channel). with_channel c.args.pair first k) c.channel_of.ensures ∙ sym (ap (λ (d : Side). left_in c.args.pair d c.args.scan) (pick_true _ _ _ (eq-eqb _ _ c.if-channel-eq0.true)))

pub returns-else-channel-eq0 : goal.returns-else-channel-eq0
returns-else-channel-eq0 c = ap (λ (k : Channel). with_channel c.args.pair second k) c.channel_of-else-channel-eq0.ensures ∙ sym (ap (λ (d : Side). left_in c.args.pair d c.args.scan) (pick_false _ _ _ (ne_eqb _ _ c.if-channel-eq0.false)))
