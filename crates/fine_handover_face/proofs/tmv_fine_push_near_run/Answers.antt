-- `fine_handover_face::tmv_fine_push_near_run` meets its contract.
use mathlib.Core.Path.{sym, ◌∙◌}
use Rattle.fine_handover_face.specs.Calls.{push_near_run_called}
use Rattle.face.proofs.Order.{state_fits, values_fit, refused, let_pass, number_is, words_are, values_are, buffers_are}
use Rattle.fine_handover_face.proofs.tmv_fine_push_near_run.Goals as goal

pub returns-then-refusal-ne0 : goal.returns-then-refusal-ne0
unfolding push_near_run_called
returns-then-refusal-ne0 c = let w = refused _ _ _ _ _ _ c.judge-refusal.ensures c.if-refusal-ne0.true in record { number = number_is w; words = words_are w; near = buffers_are w; values = values_are w }

pub load-requires : goal.load-requires
load-requires c = state_fits _ c.args.state.now _ _ (sym c.judge-refusal.ensures ∙ c.if-refusal-ne0.false)

pub tell_run-requires : goal.tell_run-requires
tell_run-requires c = values_fit _ _ _ c.args.values.now (sym c.judge-refusal.ensures ∙ c.if-refusal-ne0.false)

pub settle-requires : goal.settle-requires
settle-requires c = state_fits _ c.args.state.now _ _ (sym c.judge-refusal.ensures ∙ c.if-refusal-ne0.false)

pub returns : goal.returns
unfolding push_near_run_called
returns c =
    let p = let_pass _ _ _ _ _ _ c.judge-refusal.ensures c.if-refusal-ne0.false in
    let settled = c.settle.ensures in
    let told = c.tell_run.ensures in
    let handed = c.push_near_run-handed.ensures in
    let loaded = c.load.ensures in
    record {
      number = cc (settled.number, told.number, handed.handed, loaded) ∙ number_is p;
      words = cc (settled.words, told.number, handed.handed, loaded) ∙ words_are p;
      near = cc (handed.near, loaded) ∙ buffers_are p;
      values = cc (told.values, handed.handed, loaded) ∙ values_are p;
    }
