-- `scan_pair_words::storing::store_in` meets its contract.
use mathlib.Core.Path.{sym, ap, ◌∙◌}
use borrow.Author.Tests.{eq-eqb, ne_eqb}
use Rattle.answers.specs.Pick.{pick_true, pick_false}
use Rattle.scan_pair.specs.State.{Side}
use Prim.Native.Nat.{ℕ}
use mathlib.Core.List.{List}
use Rattle.scan_words.specs.Layout.{scan_words}
use Rattle.scan_pair_words.specs.Layout.{with_part, stored_in}
use Rattle.scan_pair_words.proofs.storing.store_in.Goals as goal

pub returns-then-number-eq0 : goal.returns-then-number-eq0
unfolding stored_in
returns-then-number-eq0 c = ap (λ (l : List ℕ). with_part 0 scan_words c.args.state.now l) c.store_channel.ensures ∙ sym (ap (λ (d : Side). stored_in c.args.state.now d c.args.channel) (pick_true _ _ _ (eq-eqb _ _ c.if-number-eq0.true)))

pub returns : goal.returns
unfolding stored_in
returns c = ap (λ (l : List ℕ). with_part 13 scan_words c.args.state.now l) c.store_channel-2.ensures ∙ sym (ap (λ (d : Side). stored_in c.args.state.now d c.args.channel) (pick_false _ _ _ (ne_eqb _ _ c.if-number-eq0.false)))
