-- `log_parts::judge_line` meets its contract, arm by arm.
use Rattle.std.proofs.Common.{inl, inr, ◌∙◌}
use Rattle.log_parts.specs.Judged.{judged_line}
use Rattle.log_parts.proofs.Judging.{then_picked}
use Rattle.log_parts.proofs.judge_line.Goals as goal

pub returns-in-Frame : goal.returns-in-Frame
unfolding judged_line
returns-in-Frame c = c.then_some.ensures ∙ rw (c.above.ensures, c.in-Frame.is) (then_picked _ _)

pub returns-in-Cycle : goal.returns-in-Cycle
unfolding judged_line
returns-in-Cycle c = c.then_some-in-Cycle.ensures ∙ rw (c.above-in-Cycle.ensures, c.in-Cycle.is) (then_picked _ _)

pub returns-in-Replay : goal.returns-in-Replay
unfolding judged_line
returns-in-Replay c =
    elim c.in-Replay.is [
      | inl w ↦ rw w.2
      | inr h ↦ elim h [
        | inl w ↦ rw w.2
        | inr h ↦ elim h [
          | inl w ↦ rw w.2
          | inr h ↦
              elim h [ inl e ↦ rw e | inr h ↦ elim h [ inl w ↦ rw w.1 | inr e ↦ rw e ] ]
        ]
      ]
    ]
