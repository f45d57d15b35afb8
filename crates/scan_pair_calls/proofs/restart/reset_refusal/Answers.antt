-- `scan_pair_calls::restart::reset_refusal` meets its contract.
use Rattle.scan_pair.specs.Calls.{both_lengths}
use Rattle.scan_pair_calls.proofs.Calls.{first_tells, second_tells}
use Rattle.scan.specs.declared.Geometry.{Geometry}
use Rattle.scan.specs.declared.Scan.{Scan}
use mathlib.Core.Path.{sym, ap, ◌∙◌}
use Rattle.scan.specs.State.{due, first_refusals}
use Rattle.scan_pair_calls.proofs.restart.reset_refusal.Goals as goal

pub first_refusals-n-requires : goal.first_refusals-n-requires
first_refusals-n-requires c = c.geometry_of-due.ensures.is ∙ sym (ap due c.scan_of.ensures)

pub returns-then-n-ne0 : goal.returns-then-n-ne0
returns-then-n-ne0 c = first_tells c.args.slack c.args.pair c.args.envelope.now c.args.first_sums.now c.args.second_sums.now (c.lengths-fit.ensures ∙ ap (λ (g : Geometry). both_lengths c.args.slack g c.args.envelope.now c.args.first_sums.now c.args.second_sums.now) c.geometry_of-due.ensures.is) (c.first_refusals-n.ensures ∙ ap (λ (s : Scan). first_refusals s c.lengths-fit.result) c.scan_of.ensures) c.if-n-ne0.true

pub first_refusals-requires : goal.first_refusals-requires
first_refusals-requires c = c.geometry_of-due.ensures.is ∙ sym (ap due c.scan_of-2.ensures)

pub returns : goal.returns
returns c = second_tells c.args.slack c.args.pair c.args.envelope.now c.args.first_sums.now c.args.second_sums.now (c.lengths-fit.ensures ∙ ap (λ (g : Geometry). both_lengths c.args.slack g c.args.envelope.now c.args.first_sums.now c.args.second_sums.now) c.geometry_of-due.ensures.is) (c.first_refusals-n.ensures ∙ ap (λ (s : Scan). first_refusals s c.lengths-fit.result) c.scan_of.ensures) c.if-n-ne0.false (c.first_refusals.ensures ∙ ap (λ (s : Scan). first_refusals s c.lengths-fit.result) c.scan_of-2.ensures)
