-- `log_passes::judging::judge_next` meets its contract.
use mathlib.Core.Path.{sym, subst}
use lib.Seq.{length-take-le}
use Rattle.log_passes.specs.Taking.{Inside}
use Rattle.log_passes.specs.Judging.{judged_in}
use Rattle.log_passes.proofs.judging.judge_next.Goals as goal

pub slice_bounds-judge_text-end : goal.slice_bounds-judge_text-end
slice_bounds-judge_text-end c = sym (length-take-le _ _ (subst (Inside _) c.in-Text.is c.line_of.ensures.1))

pub returns-in-Text : goal.returns-in-Text
unfolding judged_in
returns-in-Text c = rw (← c.line_of.ensures.0, c.in-Text.is) c.judge_text.ensures

pub returns-in-Nothing : goal.returns-in-Nothing
unfolding judged_in
returns-in-Nothing c = rw (← c.line_of.ensures.0, c.in-Nothing.is) c.look_at.ensures

pub returns-in-Wants : goal.returns-in-Wants
unfolding judged_in
returns-in-Wants c = rw (← c.line_of.ensures.0, c.in-Wants.is) c.look_at-in-Wants.ensures

pub returns-in-Long : goal.returns-in-Long
unfolding judged_in
returns-in-Long c = rw (← c.line_of.ensures.0, c.in-Long.is) c.look_at-in-Long.ensures
