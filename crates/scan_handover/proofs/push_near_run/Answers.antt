-- `scan_handover::push_near_run` meets its contract.
use mathlib.Core.Path.{◌≡◌, refl, sym, ◌∙◌}
use native.Mathlib.Omega.{arith}
use lib.ListN.{length}
use Rattle.std.proofs.lemmas.Bool.Decides.{nat_tests}
use borrow.Author.Tests.{eq-eqb, ne_eqb}
use Rattle.scan_handover.proofs.Calls.{refused_first, run_empty, run_finished, run_waits, not_handed, is_empty, is_ignored}
use Rattle.scan_handover.proofs.push_near_run.Goals as goal

pub returns-then-n-ne0 : goal.returns-then-n-ne0
returns-then-n-ne0 c =
    let a = c.args in
    let e = not_handed a.scan a.levels.now a.samples.now a.first (refused_first a.scan a.levels.now a.samples.now a.first c.judge-n.ensures c.if-n-ne0.true) c.if-n-ne0.true in
    record {
      handed = rw (← e);
      levels = rw (← e);
    }

pub returns-then-is_empty : goal.returns-then-is_empty
returns-then-is_empty c =
    let a = c.args in
    let z = sym c.judge-n.ensures ∙ c.if-n-ne0.false in
    let none : length a.samples.now ≡ 0 = grind (arith, nat_tests) in
    let e = is_empty a.scan a.levels.now a.samples.now a.first (run_empty a.scan a.levels.now a.samples.now a.first z none) refl none in
    record {
      handed = rw (← e);
      levels = rw (← e);
    }

pub returns-then-finished : goal.returns-then-finished
returns-then-finished c =
    let a = c.args in
    let z = sym c.judge-n.ensures ∙ c.if-n-ne0.false in
    let some : length a.samples.now ≡ 0 → ⊥ = grind (arith, nat_tests) in
    let f = sym c.finished.ensures ∙ c.if-finished.true in
    let e = is_ignored a.scan a.levels.now a.samples.now a.first (run_finished a.scan a.levels.now a.samples.now a.first z some f) refl some f in
    record {
      handed = rw (← e);
      levels = rw (← e);
    }

pub returns-then-scan : goal.returns-then-scan
returns-then-scan c =
    let a = c.args in
    let z = sym c.judge-n.ensures ∙ c.if-n-ne0.false in
    let some : length a.samples.now ≡ 0 → ⊥ = grind (arith, nat_tests) in
    let f = sym c.finished.ensures ∙ c.if-finished.false in
    let e = not_handed a.scan a.levels.now a.samples.now a.first (run_waits a.scan a.levels.now a.samples.now a.first z some f (eq-eqb _ _ c.if-scan.true)) (λ (y : 6 ≡ 0). omega (arith, y)) in
    record {
      handed = rw (← e);
      levels = rw (← e);
    }

pub hand_over-requires : goal.hand_over-requires
hand_over-requires c =
    record {
      takes = record { judged = sym c.judge-n.ensures ∙ c.if-n-ne0.false; unfinished = sym c.finished.ensures ∙ c.if-finished.false; unfilled = ne_eqb _ _ c.if-scan.false };
      some = grind (arith, nat_tests);
    }

pub returns : goal.returns
returns c = record { handed = c.hand_over.ensures.handed; levels = c.hand_over.ensures.levels }
