-- `scan_face::tmv_scan_new` meets its contract.
use mathlib.Core.Path.{sym, ◌∙◌, ap}
use mathlib.Core.Bool.{Bool}
use Rattle.words.specs.Words.{fits}
use Rattle.scan_words.specs.Layout.{scan_words}
use Rattle.face.specs.Face.{setting_first}
use Rattle.scan_face.specs.Calls.{new_called}
use Rattle.face.proofs.Order.{list_fits, refused, let_pass, number_is, words_are, buffers_are}
use Rattle.scan_face.proofs.tmv_scan_new.Goals as goal

pub returns-then-refusal-ne0 : goal.returns-then-refusal-ne0
unfolding new_called
returns-then-refusal-ne0 c = let w = refused _ _ _ _ _ _ (c.setting_first-refusal.ensures ∙ ap (λ (a : Bool). setting_first a (fits scan_words c.args.state.now)) c.in_table.ensures) c.if-refusal-ne0.true in record { number = number_is w; words = words_are w; history = buffers_are w }

pub settle_change-requires : goal.settle_change-requires
settle_change-requires c = list_fits _ _ c.args.state.now (sym c.setting_first-refusal.ensures ∙ c.if-refusal-ne0.false)

pub returns : goal.returns
unfolding new_called
returns c = let p = let_pass _ _ _ _ _ _ (c.setting_first-refusal.ensures ∙ ap (λ (a : Bool). setting_first a (fits scan_words c.args.state.now)) c.in_table.ensures) c.if-refusal-ne0.false in
    record {
      number = cc (c.settle_change.ensures.number, c.new-changed.ensures.changed) ∙ number_is p;
      words = cc (c.settle_change.ensures.words, c.new-changed.ensures.changed) ∙ words_are p;
      history = cc (c.new-changed.ensures.envelope, c.new-changed.ensures.sums) ∙ buffers_are p;
    }
