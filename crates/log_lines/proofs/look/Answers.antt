-- `log_lines::look` meets its contract: what is seen in the bytes passed, and then in the rest, is what is seen in all.
use Rattle.std.proofs.Common.{◌≤◌, length, refl, ◌∙◌, arith, drop_of_length-le}
use Rattle.log_lines.specs.Steps.{seen_in}
use Rattle.log_lines.proofs.Guesses.{see_next}
use Rattle.log_lines.proofs.look.Goals as goal

pub loop-byte-init : goal.loop-byte-init
unfolding seen_in
loop-byte-init c = refl

pub loop-byte-preserved : goal.loop-byte-preserved
loop-byte-preserved c =
    let now = c.loop-byte in
    see_next now.seen _ now.byte-index c.args.text.now (omega arith) c.after_byte-seen.ensures ∙ now.invariant

pub returns : goal.returns
returns c =
    let h : length c.args.text.now ≤ c.loop-byte.byte-index = omega arith in
    rw (drop_of_length-le c.args.text.now h) at c.loop-byte.invariant
