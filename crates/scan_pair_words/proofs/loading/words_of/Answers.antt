-- `scan_pair_words::loading::words_of` meets its contract.
use mathlib.Core.Path.{sym, ap}
use borrow.Author.Tests.{eq-eqb, ne_eqb}
use Rattle.answers.specs.Pick.{pick_true, pick_false}
use Rattle.scan_pair.specs.State.{Side}
use Rattle.scan_pair_words.specs.Layout.{words_of}
use borrow.Author.Rules.{rules}
use Rattle.scan_pair_words.proofs.loading.words_of.Goals as goal

pub returns-then-channel-eq0 : goal.returns-then-channel-eq0
returns-then-channel-eq0 c =
    record {
      words = sym (ap (λ (d : Side). words_of d c.args.state.now) (pick_true _ _ _ (eq-eqb _ _ c.if-channel-eq0.true)));
      many = search rules;
    }

pub returns : goal.returns
returns c =
    record {
      words = sym (ap (λ (d : Side). words_of d c.args.state.now) (pick_false _ _ _ (ne_eqb _ _ c.if-channel-eq0.false)));
      many = search rules;
    }
