-- `scan_calls::reports::ceiling_samples` meets its contract.
use Rattle.answers.proofs.Cases.{cases}
use Rattle.scan.specs.Calls.{report_refusal, ceiling_samples}
use mathlib.Core.Path.{sym, ◌∙◌}
use mathlib.Core.Bool.{true}
use native.Mathlib.Nat.{mul-le-mul, lt_of_le_of_lt}
use native.Mathlib.Omega.{arith}
use Rattle.scan_calls.proofs.Passing.{pass}
use Rattle.scan_calls.proofs.reports.ceiling_samples.Goals as goal

pub returns-then-n-ne0 : goal.returns-then-n-ne0
unfolding ceiling_samples
returns-then-n-ne0 c = search (cases, ← c.refusal-n.ensures)

pub in_samples-requires : goal.in_samples-requires
unfolding report_refusal
in_samples-requires c =
    let s = c.args.scan in
    let ok = pass s true (sym c.refusal-n.ensures ∙ c.if-n-ne0.false) in
    lt_of_le_of_lt (mul-le-mul ok.bounds.span ok.bounds.decimation) (omega arith)

pub returns : goal.returns
unfolding ceiling_samples
returns c = search (cases, ← c.refusal-n.ensures, ← c.in_samples.ensures)
