-- `wav::chunks_of` meets its contract: the rest of the walk comes to what the whole walk does.
use borrow.Author.Rules.{rules}
use mathlib.Core.Path.{refl, sym, ◌∙◌}
use native.Mathlib.Omega.{arith}
use Rattle.wav.proofs.Walk.{walk_over, walk_past, walk_data, walk_on}
use Rattle.wav.proofs.chunks_of.Goals as goal

pub loop-left-init : goal.loop-left-init
loop-left-init c = (search rules, refl)

pub returns-then-end-at : goal.returns-then-end-at
returns-then-end-at c =
    let l = c.loop-left in
    let head = c.args.head.now in
    sym (walk_past head l.left l.at l.format (omega arith)) ∙ l.invariant.1

pub returns-then-id-eq-DATA : goal.returns-then-id-eq-DATA
returns-then-id-eq-DATA c =
    let l = c.loop-left in
    let head = c.args.head.now in
    c.found_at.ensures ∙ sym (walk_data head l.left l.at l.format (omega arith) (omega arith) (sym c.u32_at-id.ensures ∙ c.if-id-eq-DATA.true)) ∙ l.invariant.1

pub loop-left-preserved : goal.loop-left-preserved
loop-left-preserved c =
    let l = c.loop-left in
    let head = c.args.head.now in
    let on = walk_on head l.left l.at l.format (omega arith) (omega arith) (λ e. c.if-id-eq-DATA.false (c.u32_at-id.ensures ∙ e)) in
    (c.behind-at.ensures.1, rw (c.behind-at.ensures.0, c.format_past-format.ensures, c.u32_at-id.ensures) (sym on ∙ l.invariant.1))

pub returns : goal.returns
returns c =
    let l = c.loop-left in
    let head = c.args.head.now in
    sym (walk_over head l.left l.at l.format c.loop-left-test.false) ∙ l.invariant.1
