-- `scan_calls::clearing::clear` meets its contract.
use mathlib.Core.Path.{◌≡◌, sym, ap, ◌∙◌}
use lib.ListN.{length}
use Rattle.answers.proofs.Cases.{cases}
use Rattle.folds.specs.Sums.{zeros}
use Rattle.scan.specs.Bins.{lags}
use Rattle.scan.specs.Calls.{clear_refusal}
use Rattle.scan_calls.proofs.Passing.{fits}
use Rattle.scan_calls.proofs.clearing.clear.Goals as goal

pub returns-then-n-ne0 : goal.returns-then-n-ne0
returns-then-n-ne0 c = record { changed = search (cases, ← c.refusal-n.ensures, ← c.refused.ensures); sums = search (cases, ← c.refusal-n.ensures, ← c.refused.ensures) }

pub returns : goal.returns
unfolding clear_refusal
returns c =
    let a = c.args in
    let n = c.refusal-n.ensures in
    let z : clear_refusal a.scan a.lag_sums.now ≡ 0 = sym n ∙ c.if-n-ne0.false in
    let m = fits a.scan (length a.lag_sums.now) lags z in
    record {
      changed = search (cases, ← n, ← c.done.ensures);
      sums = c.clear64.ensures ∙ ap zeros m ∙ search (cases, ← n);
    }
