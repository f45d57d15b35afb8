-- `scan_runs::push_near_run` meets its contract: the state is judged, and the samples are walked.
use Rattle.std.proofs.Common.{◌≡◌, eqb, length, sym, ap, ◌∙◌, eq-eqb, ne_eqb}
use Rattle.scan.specs.Bins.{near_len}
use Rattle.scan.specs.State.{first_refusals, due}
use Rattle.scan.specs.declared.Geometry.{Geometry}
use Rattle.scan_runs.specs.Ready.{Open}
use Rattle.scan_runs.proofs.Going.{not_judged, waits, ignored}
use Rattle.scan_runs.proofs.push_near_run.Goals as goal
use Rattle.scan_runs.proofs.push_near_run.Goals.{After-first_refusals-n}

-- 1 to 3
first : (c : After-first_refusals-n)
    → let a = c.args in c.first_refusals-n.result ≡ first_refusals a.scan (eqb (length a.levels.now) (near_len (due a.scan)))
first c =
    let a = c.args in
    c.first_refusals-n.ensures ∙ ap (λ (g : Geometry). first_refusals a.scan (eqb (length a.levels.now) g.frame)) c.geometry_of-due.ensures.is

pub returns-then-n-ne0 : goal.returns-then-n-ne0
returns-then-n-ne0 c =
    let a = c.args in
    let e = not_judged a.scan a.levels.now a.samples.now a.first (λ z. c.if-n-ne0.true (first (goal.at.returns-then-n-ne0 c).After-first_refusals-n ∙ z)) in
    record {
      run = rw e;
      levels = rw e;
    }

pub returns-then-finished : goal.returns-then-finished
returns-then-finished c =
    let a = c.args in
    let e = ignored a.scan a.levels.now a.samples.now a.first (sym (first (goal.at.returns-then-finished c).After-first_refusals-n) ∙ c.if-n-ne0.false) (sym c.finished.ensures ∙ c.if-finished.true) in
    record {
      run = rw e;
      levels = rw e;
    }

pub returns-then-scan-g : goal.returns-then-scan-g
returns-then-scan-g c =
    let a = c.args in
    let e = waits a.scan a.levels.now a.samples.now a.first (sym c.finished.ensures ∙ c.if-finished.false) (eq-eqb _ _ c.if-scan-g.true) in
    record {
      run = rw e;
      levels = rw e;
    }

pub walk-walked-requires : goal.walk-walked-requires
walk-walked-requires c =
    let a = c.args in
    record {
      far = a.scan.far;
      verdict = a.scan.verdict;
      opened = record { judged = sym (first (goal.at.walk-walked-requires c).After-first_refusals-n) ∙ c.if-n-ne0.false; unfinished = sym c.finished.ensures ∙ c.if-finished.false; unfilled = ne_eqb _ _ c.if-scan-g.false };
    }

pub returns : goal.returns
returns c =
    let a = c.args in
    let opened : Open a.scan a.levels.now =
    record { judged = sym (first (goal.at.returns c).After-first_refusals-n) ∙ c.if-n-ne0.false; unfinished = sym c.finished.ensures ∙ c.if-finished.false; unfilled = ne_eqb _ _ c.if-scan-g.false } in
    let e = c.walk-walked.ensures a.scan.far a.scan.verdict opened in
    record {
      run = rw (c.with_near.ensures, ← e);
      levels = rw (← e);
    }
