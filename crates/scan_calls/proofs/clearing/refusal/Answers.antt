-- `scan_calls::clearing::refusal` meets its contract.
use Rattle.scan.specs.Calls.{clear_refusal}
use Rattle.scan_calls.proofs.clearing.refusal.Goals as goal

pub returns : goal.returns
unfolding clear_refusal
returns c = cc
