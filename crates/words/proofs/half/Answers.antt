-- `words::half` meets its contract: a number of 32 bits is kept, and `other` stands for a larger one.
use Rattle.std.proofs.Common.{◌≡◌, ℕ, ◌<◌, ◌^◌, Result, Ok, Err, sym, ◌∙◌, arith}
use Rattle.std.specs.Result.{OkIff, result_unwrap_or}
use borrow.Author.Tests.{lt-ltb, le-ltb}
use Rattle.answers.specs.Pick.{pick_true, pick_false}
use Rattle.words.specs.Words.{half}
use Rattle.words.proofs.half.Goals as goal

kept : {E : Type 0} (r : Result ℕ E) (w other : ℕ) → OkIff r (w < 2 ^ 32) w → result_unwrap_or r other ≡ half w other
unfolding half
kept (Ok n) w other h = h.1 ∙ sym (pick_true _ w other (lt-ltb w (2 ^ 32) h.0))
kept (Err e) w other h = sym (pick_false _ w other (le-ltb w (2 ^ 32) (omega (arith, h))))

pub returns : goal.returns
returns c = c.unwrap_or.ensures ∙ kept c.try_from.result c.args.w c.args.other c.try_from.ensures
