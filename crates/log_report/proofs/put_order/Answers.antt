-- `log_report::put_order` meets its contract.
use mathlib.Core.Path.{sym, ◌∙◌}
use Rattle.answers.specs.Pick.{pick_true, pick_false}
use Rattle.log_report.proofs.Lengths.{put_nothing}
use Rattle.log_report.specs.Texts.{order_text}
use Rattle.log_report.proofs.put_order.Goals as goal

pub returns-then-all_alike : goal.returns-then-all_alike
unfolding order_text
returns-then-all_alike c = rw (pick_true _ _ _ (sym c.all_alike.ensures ∙ c.if-all_alike.true)) c.put_place.ensures

pub returns : goal.returns
unfolding order_text
returns c = rw (pick_false _ _ _ (sym c.all_alike.ensures ∙ c.if-all_alike.false)) (put_nothing _ _)
