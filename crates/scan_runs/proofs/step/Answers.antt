-- `scan_runs::step` meets its contract.
use Rattle.std.proofs.Common.{◌≡◌, sym, ap, ◌∙◌}
use Rattle.scan.specs.Blocks.{dropped, held_at}
use Rattle.scan.specs.declared.Near.{Near}
use Rattle.answers.specs.Pick.{pick_true, pick_false}
use Rattle.scan_runs.proofs.step.Goals as goal
use Rattle.scan_runs.proofs.step.Goals.{After-dropped}

-- whether the near side that the sample finds drops it
drops : (c : After-dropped) → let a = c.args in c.dropped.result ≡ dropped a.g (held_at a.n a.index) a.index
drops c = let a = c.args in c.dropped.ensures ∙ ap (λ (m : Near). dropped a.g m a.index) c.held_at-held.ensures

pub returns-then-dropped : goal.returns-then-dropped
returns-then-dropped c =
    let e = sym (drops (record { before = c.before.before; type_inv = record { levels = c.type_inv.levels } })) ∙ c.if-dropped.true in
    record {
      near = rw (pick_true _ _ _ e, c.held_at-held.ensures);
      levels = rw (pick_true _ _ _ e);
    }

pub gather-requires : goal.gather-requires
gather-requires c = rw c.held_at-held.ensures (c.requires.1 (sym (drops (record { before = c.before.before; type_inv = record { levels = c.slice_known-1.given } })) ∙ c.if-dropped.false))

pub returns : goal.returns
returns c =
    let held = c.held_at-held.ensures in
    let e = sym (drops (record { before = c.before.before.before.before.before.before; type_inv = record { levels = c.slice_known-1.given } })) ∙ c.if-dropped.false in
    let k = c.gather.ensures in
    record {
      near = k.near ∙ rw (held, pick_false _ _ _ e);
      levels = k.levels ∙ rw (held, pick_false _ _ _ e);
    }
