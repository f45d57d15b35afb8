-- `tracker_face::tmv_tracker_new` meets its contract.
use Rattle.tracker_words.specs.Layout.{tracker_words}
use Rattle.face.proofs.Order.{list_fits, refused, let_pass, number_is, words_are}
use Rattle.face.specs.Face.{setting_first}
use Rattle.tracker_face.specs.Calls.{new_called}
use Rattle.words.specs.Words.{fits}
use mathlib.Core.Bool.{Bool}
use mathlib.Core.Path.{sym, ◌∙◌, ap}
use Rattle.tracker_face.proofs.tmv_tracker_new.Goals as goal

pub returns-then-refusal-ne0 : goal.returns-then-refusal-ne0
unfolding new_called
returns-then-refusal-ne0 c = let w = refused _ _ _ _ _ _ (c.setting_first-refusal.ensures ∙ ap (λ (a : Bool). setting_first a (fits tracker_words c.args.state.now)) c.allowed_rate.ensures) c.if-refusal-ne0.true in record { number = number_is w; words = words_are w }

pub settle_change-requires : goal.settle_change-requires
settle_change-requires c = list_fits _ _ c.args.state.now (sym c.setting_first-refusal.ensures ∙ c.if-refusal-ne0.false)

pub returns : goal.returns
unfolding new_called
returns c = let p = let_pass _ _ _ _ _ _ (c.setting_first-refusal.ensures ∙ ap (λ (a : Bool). setting_first a (fits tracker_words c.args.state.now)) c.allowed_rate.ensures) c.if-refusal-ne0.false in
    record {
      number = cc (c.settle_change.ensures.number, c.new.ensures) ∙ number_is p;
      words = cc (c.settle_change.ensures.words, c.new.ensures) ∙ words_are p;
    }
