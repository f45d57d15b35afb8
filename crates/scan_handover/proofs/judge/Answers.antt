-- `scan_handover::judge` meets its contract.
use mathlib.Core.Path.{ap, ◌∙◌}
use lib.Dec.{eqb}
use lib.ListN.{length}
use Rattle.scan.specs.State.{first_refusals}
use Rattle.scan.specs.declared.Geometry.{Geometry}
use Rattle.scan_handover.proofs.judge.Goals as goal

pub returns : goal.returns
returns c =
    let a = c.args in
    c.first_refusals.ensures ∙ ap (λ (g : Geometry). first_refusals a.scan (eqb (length a.levels.now) g.frame)) c.geometry_of-due.ensures.is
