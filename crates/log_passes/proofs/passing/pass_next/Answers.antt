-- `log_passes::passing::pass_next` meets its contract.
use Rattle.log_passes.proofs.Sides.{by_first, by_second, by_turn}
use Rattle.log_passes.proofs.passing.pass_next.Goals as goal

pub returns-in-Sought-default : goal.returns-in-Sought-default
returns-in-Sought-default c = by_first _ _ _ _ _ _ _ c.in-Sought-default.is-0 _ c.seek.ensures c.first_sought.ensures

pub returns-in-Has-Sought : goal.returns-in-Has-Sought
returns-in-Has-Sought c = by_second _ _ _ _ _ _ _ _ c.in-Has-Sought.is-0 c.in-Has-Sought.is-1 _ c.seek-in-Has-Sought.ensures c.second_sought.ensures

pub returns-in-Has-Has : goal.returns-in-Has-Has
returns-in-Has-Has c = by_turn _ _ _ _ _ _ _ _ _ c.in-Has-Has.is-0 c.in-Has-Has.is-1 _ c.turn_at.ensures c.turned_by.ensures
