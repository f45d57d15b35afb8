-- `scan_pair_words::storing::settle_in` meets its contract.
use mathlib.Core.Path.{refl, sym, ap, ◌∙◌}
use borrow.Author.Tests.{eq-eqb, ne_eqb, le-ltb}
use Rattle.answers.specs.Pick.{pick_true, pick_false}
use Rattle.scan_pair.specs.State.{Side, side_of, chosen}
use Rattle.answers.proofs.Cases.{cases}
use Rattle.scan_pair.specs.declared.Channel.{Channel}
use Rattle.scan_pair_words.specs.Layout.{stored_in, settled_in}
use Rattle.scan_pair_words.proofs.storing.settle_in.Goals as goal

pub returns-then-number-lt16 : goal.returns-then-number-lt16
unfolding settled_in
returns-then-number-lt16 c = record { number = refl; words = search cases }

pub returns-then-channel-eq0 : goal.returns-then-channel-eq0
unfolding settled_in
returns-then-channel-eq0 c =
    record {
      number = refl;
      words = c.store_in.ensures ∙ ap (λ (k : Channel). stored_in c.args.state.now (side_of c.args.channel) k) (sym (ap (λ (d : Side). chosen c.args.pair d) (pick_true _ _ _ (eq-eqb _ _ c.if-channel-eq0.true)))) ∙ sym (pick_false _ _ _ (le-ltb _ _ c.if-number-lt16.false));
    }

pub returns : goal.returns
unfolding settled_in
returns c =
    record {
      number = refl;
      words = c.store_in-2.ensures ∙ ap (λ (k : Channel). stored_in c.args.state.now (side_of c.args.channel) k) (sym (ap (λ (d : Side). chosen c.args.pair d) (pick_false _ _ _ (ne_eqb _ _ c.if-channel-eq0.false)))) ∙ sym (pick_false _ _ _ (le-ltb _ _ c.if-number-lt16.false));
    }
