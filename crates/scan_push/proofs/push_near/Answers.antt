-- `scan_push::push_near` meets its contract.
use mathlib.Core.Path.{◌≡◌, sym, ap, ◌∙◌}
use Rattle.scan.specs.Blocks.{dropped, held_at}
use Rattle.scan.specs.declared.Near.{Near}
use Rattle.scan_push.proofs.Calls.{not_taken, is_ignored, is_dropped, is_taken}
use Rattle.scan_push.proofs.Pushing.{gathers, divisible}
use Rattle.scan_push.proofs.push_near.Goals as goal
use Rattle.scan_push.proofs.push_near.Goals.{After-dropped}

-- whether the near side that the sample finds drops it
drops : (c : After-dropped)
    → let a = c.args in c.dropped.result ≡ dropped a.scan.geometry (held_at a.scan.near a.index) a.index
drops c =
    let a = c.args in
    c.dropped.ensures ∙ ap (λ (m : Near). dropped a.scan.geometry m a.index) c.held_at-held.ensures

pub returns-then-n-ne0 : goal.returns-then-n-ne0
returns-then-n-ne0 c =
    let a = c.args in
    let e = not_taken a.scan a.levels.now a.sample a.index c.refusal-n.ensures c.if-n-ne0.true in
    record {
      took = rw (← e);
      levels = rw (← e);
    }

pub returns-then-finished : goal.returns-then-finished
returns-then-finished c =
    let a = c.args in
    let e = is_ignored a.scan a.levels.now a.sample a.index c.refusal-n.ensures c.if-n-ne0.false c.finished.ensures c.if-finished.true in
    record {
      took = rw (← e);
      levels = rw (← e);
    }

pub dropped-requires : goal.dropped-requires
dropped-requires c =
    let a = c.args in
    divisible a.scan a.levels.now a.sample a.index (sym c.refusal-n.ensures ∙ c.if-n-ne0.false)

pub returns-then-dropped : goal.returns-then-dropped
returns-then-dropped c =
    let a = c.args in
    let e = is_dropped a.scan a.levels.now a.sample a.index c.refusal-n.ensures c.if-n-ne0.false c.finished.ensures c.if-finished.false (drops (goal.at.returns-then-dropped c).After-dropped) c.if-dropped.true in
    record {
      took = rw (← e, c.with_near.ensures, c.held_at-held.ensures);
      levels = rw (← e);
    }

pub gather-gathered-requires : goal.gather-gathered-requires
gather-gathered-requires c =
    let a = c.args in
    rw c.held_at-held.ensures
    (gathers a.scan a.levels.now a.sample a.index (sym c.refusal-n.ensures ∙ c.if-n-ne0.false) (sym c.finished.ensures ∙ c.if-finished.false) (sym (drops (goal.at.gather-gathered-requires c).After-dropped) ∙ c.if-dropped.false))

pub returns : goal.returns
returns c =
    let a = c.args in
    let held = c.held_at-held.ensures in
    let e = is_taken a.scan a.levels.now a.sample a.index c.refusal-n.ensures c.if-n-ne0.false c.finished.ensures c.if-finished.false (drops (goal.at.returns c).After-dropped) c.if-dropped.false in
    record {
      took = rw (← e, c.taken.ensures, c.gather-gathered.ensures.near, held);
      levels = rw (← e, c.gather-gathered.ensures.levels, held);
    }
