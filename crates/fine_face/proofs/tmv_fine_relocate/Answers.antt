-- `fine_face::tmv_fine_relocate` meets its contract.
use mathlib.Core.Path.{sym, ◌∙◌}
use Rattle.fine_face.specs.Calls.{relocate_called}
use Rattle.face.proofs.Order.{state_fits, refused, let_pass, number_is, words_are}
use Rattle.fine_face.proofs.tmv_fine_relocate.Goals as goal

pub returns-then-refusal-ne0 : goal.returns-then-refusal-ne0
unfolding relocate_called
returns-then-refusal-ne0 c = let w = refused _ _ _ _ _ _ c.judge-refusal.ensures c.if-refusal-ne0.true in record { number = number_is w; words = words_are w }

pub load-requires : goal.load-requires
load-requires c = state_fits _ c.args.state.now _ _ (sym c.judge-refusal.ensures ∙ c.if-refusal-ne0.false)

pub settle_change-requires : goal.settle_change-requires
settle_change-requires c = state_fits _ c.args.state.now _ _ (sym c.judge-refusal.ensures ∙ c.if-refusal-ne0.false)

pub returns : goal.returns
unfolding relocate_called
returns c = let p = let_pass _ _ _ _ _ _ c.judge-refusal.ensures c.if-refusal-ne0.false in
    record {
      number = cc (c.settle_change.ensures.number, c.relocate.ensures, c.load.ensures) ∙ number_is p;
      words = cc (c.settle_change.ensures.words, c.relocate.ensures, c.load.ensures) ∙ words_are p;
    }
