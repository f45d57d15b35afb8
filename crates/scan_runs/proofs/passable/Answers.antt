-- `scan_runs::passable` meets its contract: the tests in their order.
use Rattle.std.proofs.Common.{◌≡◌, refl, ap, ◌∙◌, arith}
use Rattle.answers.specs.Pick.{pick}
use Rattle.answers.proofs.Cases.{cases}
use Rattle.scan.specs.Blocks.{dropped, held_at}
use Rattle.scan.specs.declared.Near.{Near}
use Rattle.scan_push.proofs.Pushing.{held_below}
use Rattle.scan_runs.specs.Ready.{fills, passable}
use Rattle.scan_runs.proofs.passable.Goals as goal
use Rattle.scan_runs.proofs.passable.Goals.{After-dropped}

-- whether the near side that the sample finds drops it
drops : (c : After-dropped) → let a = c.args in c.dropped.result ≡ dropped a.g (held_at a.n a.index) a.index
drops c = let a = c.args in c.dropped.ensures ∙ ap (λ (m : Near). dropped a.g m a.index) c.held_at-held.ensures

pub fills-requires : goal.fills-requires
fills-requires c =
    rw c.held_at-held.ensures
    (held_below c.args.n c.args.index (λ (m : Near). m.count) c.args.g.decimation c.requires.0 refl, held_below c.args.n c.args.index (λ (m : Near). m.len) c.args.g.frame c.requires.1 refl)

pub returns-then-not-is_finite : goal.returns-then-not-is_finite
unfolding passable pick
returns-then-not-is_finite c = grind (arith, cases)

pub returns-then-dropped : goal.returns-then-dropped
unfolding passable pick
returns-then-dropped c = let d = drops (goal.at.returns-then-dropped c).After-dropped in grind (arith, cases, d)

pub returns-then-is_finite32 : goal.returns-then-is_finite32
unfolding passable pick
returns-then-is_finite32 c =
    let d = drops (goal.at.returns-then-is_finite32 c).After-dropped in
    let f = c.fills.ensures ∙ ap (fills c.args.g) c.held_at-held.ensures in
    grind (arith, cases, d, f)

pub returns-else-is_finite32 : goal.returns-else-is_finite32
unfolding passable pick
returns-else-is_finite32 c = let d = drops (goal.at.returns-else-is_finite32 c).After-dropped in grind (arith, cases, d)
