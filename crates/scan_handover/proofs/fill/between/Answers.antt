-- `scan_handover::fill::between` meets its contract.
use Prim.Native.Nat.{◌+◌}
use mathlib.Core.Path.{sym, ap, ◌∙◌, subst}
use mathlib.Core.List.{List}
use native.Mathlib.Omega.{arith}
use lib.Ieee.{Float}
use Rattle.scan_handover.specs.Handover.{gather_all}
use Rattle.scan_handover.specs.Ready.{Fills}
use Rattle.scan_handover.proofs.Gathers.{part_is, none_between}
use Rattle.scan_handover.proofs.fill.between.Goals as goal

pub returns-then-end-from : goal.returns-then-end-from
unfolding gather_all
returns-then-end-from c =
    let a = c.args in
    let e = none_between a.samples.now a.from a.end c.if-end-from.true in
    record {
      near = rw e;
      levels = rw e;
    }

pub overflow_add-first : goal.overflow_add-first
overflow_add-first c =
    omega (arith, (c.requires.all (omega (arith, c.if-end-from.false))).small)

pub all-requires : goal.all-requires
all-requires c =
    let a = c.args in
    subst (λ (xs : List Float). Fills a.g a.n a.levels.now xs (a.first + a.from)) (sym (part_is a.samples.now a.from a.end)) (c.requires.all (omega (arith, c.if-end-from.false)))

pub returns : goal.returns
returns c =
    let a = c.args in
    let e = part_is a.samples.now a.from a.end in
    let k = c.all.ensures in
    record {
      near = k.near ∙ ap (λ (xs : List Float). (gather_all a.g (record { near = a.n; levels = a.levels.now }) xs (a.first + a.from)).near) e;
      levels = k.levels ∙ ap (λ (xs : List Float). (gather_all a.g (record { near = a.n; levels = a.levels.now }) xs (a.first + a.from)).levels) e;
    }
