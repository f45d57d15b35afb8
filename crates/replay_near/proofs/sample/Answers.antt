-- `sample` meets its contract: by the answer of `push_near`; a full frame is scored.
use Rattle.std.proofs.Common.{inl, inr}
use Rattle.replay.specs.Events.{sample_played}
use Rattle.replay_near.proofs.sample.Goals as goal

pub returns-in-Refused : goal.returns-in-Refused
unfolding sample_played
returns-in-Refused c =
    rw (c.with_scan-next.ensures, ← c.push_near-took.ensures.took, ← c.push_near-took.ensures.levels, c.in-Refused.is)

pub returns-in-Ignored : goal.returns-in-Ignored
unfolding sample_played
returns-in-Ignored c =
    elim c.in-Ignored.is [
      | inl is ↦ rw (c.with_scan-next.ensures, ← c.push_near-took.ensures.took, ← c.push_near-took.ensures.levels, is)
      | inr rest ↦ elim rest [
        | inl is ↦ rw (c.with_scan-next.ensures, ← c.push_near-took.ensures.took, ← c.push_near-took.ensures.levels, is)
        | inr is ↦ rw (c.with_scan-next.ensures, ← c.push_near-took.ensures.took, ← c.push_near-took.ensures.levels, is)
      ]
    ]

pub shape_of-levels-in-Full : goal.shape_of-levels-in-Full
shape_of-levels-in-Full c =
    c.push_near-took.auto.levels

pub returns-in-Full : goal.returns-in-Full
unfolding sample_played
returns-in-Full c =
    rw (← c.push_near-took.ensures.took, ← c.push_near-took.ensures.levels, c.in-Full.is) (rw c.with_scan-next.ensures at c.score.ensures)
