-- `replay_inputs::go_on` meets its contract, arm by arm.
use Rattle.std.proofs.Common.{refl, inl, inr}
use Rattle.replay_inputs.proofs.Going.{went_read, went_still}
use Rattle.replay_inputs.proofs.go_on.Goals as goal

pub returns-in-Wants : goal.returns-in-Wants
returns-in-Wants c = went_read _ _ _ _ _ _ _ _ _ _ c.requires c.past-rest.ensures _ _ c.in-Wants.is c.refill.ensures

pub returns-in-Says : goal.returns-in-Says
returns-in-Says c =
    elim c.in-Says.is [
      | inl is ↦ went_still _ _ _ _ _ _ c.requires c.past-rest.ensures _ _ is.1 refl refl refl
      | inr rest ↦ elim rest [
        | inl is ↦ went_still _ _ _ _ _ _ c.requires c.past-rest.ensures _ _ is refl refl refl
        | inr is ↦ went_still _ _ _ _ _ _ c.requires c.past-rest.ensures _ _ is refl refl refl
      ]
    ]
