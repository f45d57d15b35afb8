-- `replay_sink::take` meets its contract.
use mathlib.Core.Path.{refl}
use mathlib.Core.Logic.{inl, inr}
use Rattle.replay_sink.proofs.Sinks.{took_line, took_none}
use Rattle.replay_sink.proofs.take.Goals as goal

pub returns-in-Says : goal.returns-in-Says
returns-in-Says c = took_line _ _ _ _ _ _ c.in-Says.is c.hear.ensures

pub returns-in-Silent : goal.returns-in-Silent
returns-in-Silent c =
    elim c.in-Silent.is [
      | inl is ↦ took_none _ _ _ _ is (refl, refl) c.requires
      | inr rest ↦ elim rest [
        | inl is ↦ took_none _ _ _ _ is.1 (refl, refl) c.requires
        | inr is ↦ took_none _ _ _ _ is (refl, refl) c.requires
      ]
    ]
