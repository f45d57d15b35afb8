-- `scan_handover::part::lead` meets its contract.
use mathlib.Core.Path.{refl, sym}
use native.Mathlib.Nat.{mod-lt}
use native.Mathlib.Omega.{arith}
use borrow.Author.Tests.{not-true, not-false}
use Rattle.scan_calls.proofs.Chains.{yes, no}
use Rattle.scan_handover.proofs.Places.{on_grid_lem, off_grid}
use Rattle.scan_handover.proofs.part.lead.Goals as goal

pub returns-then-not-idle : goal.returns-then-not-idle
returns-then-not-idle c = no c.idle.ensures _ (not-true _ c.if-not-idle.true-raw) refl

pub returns-then-past-eq0 : goal.returns-then-past-eq0
returns-then-past-eq0 c =
    yes c.idle.ensures 0 (not-false _ c.if-not-idle.false-raw) (sym (on_grid_lem c.args.g.decimation c.args.first c.requires.0 c.if-past-eq0.true))

pub overflow_sub-result : goal.overflow_sub-result
overflow_sub-result c = omega (arith, mod-lt c.args.first c.requires.0)

pub returns : goal.returns
returns c =
    yes c.idle.ensures 0 (not-false _ c.if-not-idle.false-raw) (sym (off_grid c.args.g.decimation c.args.first c.requires.0 c.if-past-eq0.false))
