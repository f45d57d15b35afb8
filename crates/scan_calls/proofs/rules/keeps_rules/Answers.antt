-- `scan_calls::rules::keeps_rules` meets its contract. `same` is that the geometry is the one due.
use mathlib.Core.Bool.{true}
use mathlib.Core.Path.{◌≡◌, sym, ap, ◌∙◌}
use Rattle.answers.proofs.Cases.{cases}
use Rattle.answers.specs.Pick.{pick}
use Rattle.std.proofs.Common.{arith}
use Rattle.scan.specs.Bins.{same_geometry}
use Rattle.scan.specs.State.{keeps_rules, geometry_rule}
use Rattle.scan_calls.proofs.Passing.{keeps_bounds}
use Rattle.scan_calls.proofs.rules.keeps_rules.Goals as goal
use Rattle.scan_calls.proofs.rules.keeps_rules.Goals.{After-same_geometry}

same : (c : After-same_geometry) → c.same_geometry.result ≡ geometry_rule c.args.scan
same c = c.same_geometry.ensures ∙ ap (same_geometry c.args.scan.geometry) c.requires.0

pub far_rule-requires : goal.far_rule-requires
far_rule-requires c = keeps_bounds c.args.scan c.requires.1 (sym (same (goal.at.far_rule-requires c).After-same_geometry) ∙ c.if-same_geometry.true)

pub near_rule-requires : goal.near_rule-requires
near_rule-requires c =
    let t : c.same_geometry.result ≡ true = grind arith in
    keeps_bounds c.args.scan c.requires.1 (sym (same (goal.at.near_rule-requires c).After-same_geometry) ∙ t)

pub returns-then-near_rule : goal.returns-then-near_rule
unfolding keeps_rules pick
returns-then-near_rule c = let s = same (goal.at.returns-then-near_rule c).After-same_geometry in grind (arith, cases, s)

pub returns-else-near_rule : goal.returns-else-near_rule
unfolding keeps_rules pick
returns-else-near_rule c = let s = same (goal.at.returns-else-near_rule c).After-same_geometry in grind (arith, cases, s)
