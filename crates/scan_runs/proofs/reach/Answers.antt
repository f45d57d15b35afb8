-- `scan_runs::reach` meets its contract.
use Rattle.std.proofs.Common.{sym, ◌∙◌, arith, eqb-true}
use borrow.Author.Tests.{not-false}
use Rattle.scan_runs.proofs.reach.Goals as goal

pub returns-then-idle : goal.returns-then-idle
returns-then-idle c =
    let p = c.requires in
    record { within = omega (arith, p); partial = omega (arith, p); small = λ z. absurd (omega arith); underway = λ z. absurd (omega arith); follows = λ z. absurd (omega arith) }

pub returns-then-index-block : goal.returns-then-index-block
returns-then-index-block c =
    let p = c.requires in
    record { within = omega (arith, p); partial = omega (arith, p); small = λ z. absurd (omega arith); underway = λ z. absurd (omega arith); follows = λ z. absurd (omega arith) }

pub returns : goal.returns
returns c =
    let p = c.requires in
    record {
      within = omega (arith, p);
      partial = omega (arith, p);
      small = λ z. omega (arith, p);
      underway = λ z. sym c.idle.ensures ∙ c.if-idle.false;
      follows = λ z. eqb-true _ _ (sym c.follows.ensures ∙ not-false _ c.if-not-follows.false-raw);
    }
