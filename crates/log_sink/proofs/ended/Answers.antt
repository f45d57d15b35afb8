-- `log_sink::ended` meets its contract.
use native.Mathlib.Omega.{arith}
use mathlib.Core.Path.{refl}
use Prim.Native.Nat.{◌+◌}
use lib.ListN.{length-set}
use Rattle.log_sink.proofs.Joining.{newline_behind}
use borrow.Author.Rules.{rules}
use Rattle.answers.proofs.Cases.{cases}
use Rattle.log_sink.proofs.ended.Goals as goal

pub returns-then-room-held : goal.returns-then-room-held
returns-then-room-held c =
    let lost = c.lost in
    let bad = lost.ensures.1 in
    (omega (arith, lost.ensures.0, c.requires), (λ g. absurd (bad g)), (λ g. absurd (bad g)), λ r. absurd (omega (arith, r, c.if-room-held.true)))

pub returns : goal.returns
returns c =
    (simp length-set (search rules), (λ g. newline_behind c.args.room.now (c.args.text.held + c.args.n) (omega (arith, c.if-room-held.false))), (λ g. grind (arith, cases)), λ r. refl)
