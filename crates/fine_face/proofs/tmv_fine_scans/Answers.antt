-- `fine_face::tmv_fine_scans` meets its contract.
use mathlib.Core.Path.{sym, ◌∙◌}
use Rattle.answers.specs.Told.{count_told}
use Rattle.words.specs.Words.{one_value}
use Rattle.fine.specs.Calls.{scans_of}
use Rattle.fine_face.specs.Calls.{scans_called}
use Rattle.face.proofs.Order.{state_fits, values_fit}
use Rattle.fine_face.proofs.Reports.{turned_away, reports}
use Rattle.fine_face.proofs.tmv_fine_scans.Goals as goal

pub returns-then-refusal-ne0 : goal.returns-then-refusal-ne0
unfolding scans_called
returns-then-refusal-ne0 c = let parts = turned_away count_told scans_of one_value c.args.state.now c.args.values.now c.judge-refusal.ensures c.if-refusal-ne0.true in record { number = parts.0; values = parts.1 }

pub load-requires : goal.load-requires
load-requires c = state_fits _ c.args.state.now _ _ (sym c.judge-refusal.ensures ∙ c.if-refusal-ne0.false)

pub tell_count-requires : goal.tell_count-requires
tell_count-requires c = values_fit _ _ _ c.args.values.now (sym c.judge-refusal.ensures ∙ c.if-refusal-ne0.false)

pub returns : goal.returns
unfolding scans_called
returns c = let parts = reports count_told scans_of one_value c.args.state.now c.args.values.now c.judge-refusal.ensures c.if-refusal-ne0.false c.load.ensures c.scans.ensures c.tell_count.ensures.number c.tell_count.ensures.values in record { number = parts.0; values = parts.1 }
