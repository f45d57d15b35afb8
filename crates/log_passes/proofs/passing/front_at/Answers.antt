-- `log_passes::passing::front_at` meets its contract.
use Rattle.log_passes.proofs.Sides.{front_mapped}
use Rattle.log_passes.proofs.passing.front_at.Goals as goal

pub returns : goal.returns
returns c = front_mapped _ c.args.line c.map.result c.map.ensures.cases (λ l n k. k)
