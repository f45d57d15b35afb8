-- `scan_lags::products_of_block` meets its contract. Invariant: each sum is that of its lag's products of the pairs before this one.
use Rattle.std.proofs.Common.{◌≡◌, ℕ, ◌+◌, ◌-◌, ◌*◌, length, ap, ◌∙◌, subst, arith}
use Rattle.folds.specs.Sums.{upto, table, zeros}
use Rattle.folds.proofs.Laws.{length_table}
use Rattle.scan_lags.specs.Lags.{products_of}
use Rattle.scan_lags.proofs.Blocks.{stepped}
use Rattle.scan_lags.proofs.products_of_block.Goals as goal

pub loop-pair-init : goal.loop-pair-init
unfolding zeros upto table
loop-pair-init c = c.requires.1

pub add_products-requires : goal.add_products-requires
add_products-requires c = (omega (arith, c.requires.0.reach), ap length c.loop-pair.invariant ∙ length_table _ 16)

pub loop-pair-preserved : goal.loop-pair-preserved
loop-pair-preserved c =
    let l = c.loop-pair in
    let a = c.args in
    let i = 2 * l.pair in
    let once = c.add_products.ensures ∙ stepped a.near.now a.window.now a.k i 16 l.sums l.invariant in
    let twice = c.add_products-in-loop-pair.ensures ∙ stepped a.near.now a.window.now a.k (i + 1) 16 c.add_products.new.sums once in
    let two : i + 1 + 1 ≡ 2 * (l.pair + 1) = omega arith in
    subst (λ (n : ℕ). c.add_products-in-loop-pair.new.sums ≡ table (λ j. products_of a.near.now a.window.now n (a.k + j)) 16) two twice

pub add_products-requires-then-frame-eq1 : goal.add_products-requires-then-frame-eq1
add_products-requires-then-frame-eq1 c = (omega (arith, c.requires.0.reach), ap length c.loop-pair.invariant ∙ length_table _ 16)

pub returns-then-frame-eq1 : goal.returns-then-frame-eq1
returns-then-frame-eq1 c =
    let l = c.loop-pair in
    let a = c.args in
    let before : 2 * l.pair ≡ a.frame - 1 = omega arith in
    let all : a.frame - 1 + 1 ≡ a.frame = omega arith in
    let sums = c.add_products-then-frame-eq1.ensures ∙ stepped a.near.now a.window.now a.k (a.frame - 1) 16 l.sums (rw before at l.invariant) in
    subst (λ (n : ℕ). c.add_products-then-frame-eq1.new.sums ≡ table (λ j. products_of a.near.now a.window.now n (a.k + j)) 16) all sums
