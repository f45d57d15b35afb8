-- `ring_window_face::tmv_ring_window_floats` meets its contract.
use mathlib.Core.Path.{sym, ◌∙◌}
use Rattle.ring_window_face.specs.Calls.{window_floats_called}
use Rattle.face.proofs.Order.{state_fits, values_fit, refused, let_pass, number_is, values_are, buffers_are}
use Rattle.ring_window_face.proofs.tmv_ring_window_floats.Goals as goal

pub returns-then-refusal-ne0 : goal.returns-then-refusal-ne0
unfolding window_floats_called
returns-then-refusal-ne0 c = let w = refused _ _ _ _ _ _ c.judge-refusal.ensures c.if-refusal-ne0.true in record { number = number_is w; window = buffers_are w; values = values_are w }

pub load-requires : goal.load-requires
load-requires c = state_fits _ c.args.state.now _ _ (sym c.judge-refusal.ensures ∙ c.if-refusal-ne0.false)

pub tell_reading-requires : goal.tell_reading-requires
tell_reading-requires c = values_fit _ _ _ c.args.values.now (sym c.judge-refusal.ensures ∙ c.if-refusal-ne0.false)

pub returns : goal.returns
unfolding window_floats_called
returns c =
    let p = let_pass _ _ _ _ _ _ c.judge-refusal.ensures c.if-refusal-ne0.false in
    let told = c.tell_reading.ensures in
    let read = c.window_floats-reading.ensures in
    let loaded = c.load.ensures in
    record {
      number = cc (told.number, read.answer, loaded) ∙ number_is p;
      window = cc (read.window, loaded) ∙ buffers_are p;
      values = cc (told.values, read.answer, loaded) ∙ values_are p;
    }
