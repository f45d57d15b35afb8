-- `scan_pair_face::tmv_pair_region` meets its contract.
use mathlib.Core.Path.{sym, ◌∙◌}
use Rattle.scan_pair_face.specs.Calls.{region_called}
use Rattle.face.proofs.Order.{refused, let_pass, number_is, values_are}
use Rattle.scan_pair_face.proofs.Order.{on_state_fits, on_values_fit}
use native.Mathlib.Omega.{arith}
use Rattle.scan_pair_face.proofs.tmv_pair_region.Goals as goal

pub returns-then-refusal-ne0 : goal.returns-then-refusal-ne0
unfolding region_called
returns-then-refusal-ne0 c = let w = refused _ _ _ _ _ _ c.judge_on-refusal.ensures c.if-refusal-ne0.true in record { number = number_is w; values = values_are w }

pub words_of-own-requires : goal.words_of-own-requires
words_of-own-requires c = on_state_fits c.args.channel c.args.state.now _ (sym c.judge_on-refusal.ensures ∙ c.if-refusal-ne0.false)

pub bounds-own-21 : goal.bounds-own-21
bounds-own-21 c = omega (arith, c.words_of-own.ensures.many)

pub load-requires : goal.load-requires
load-requires c = on_state_fits c.args.channel c.args.state.now _ (sym c.judge_on-refusal.ensures ∙ c.if-refusal-ne0.false)

pub tell_region-requires : goal.tell_region-requires
tell_region-requires c = on_values_fit c.args.channel c.args.state.now _ c.args.values.now (sym c.judge_on-refusal.ensures ∙ c.if-refusal-ne0.false)

pub returns : goal.returns
unfolding region_called
returns c = let p = let_pass _ _ _ _ _ _ c.judge_on-refusal.ensures c.if-refusal-ne0.false in
    record {
      number = cc (c.tell_region.ensures.number, c.region.ensures, c.load.ensures) ∙ number_is p;
      values = cc (c.tell_region.ensures.values, c.region.ensures, c.load.ensures, c.words_of-own.ensures.words) ∙ values_are p;
    }
