-- Laws of a block of lags: one product more for each, the scores of a block that has no flat lag, and how many lags are counted.
use Rattle.std.proofs.Common.{◌≡◌, ℕ, zero, suc, ◌+◌, ◌<◌, ◌≤◌, Bool, true, false, not, List, sym, ap, ◌∙◌, add-one, arith}
use lib.Ieee.{Float, binary64, add, mul, le}
use Rattle.answers.specs.Pick.{pick, pick_true, pick_false, pick_all}
use Rattle.folds.specs.Sums.{table, at}
use Rattle.folds.specs.Rewriting.{Rewritten}
use Rattle.folds.proofs.Laws.{more, table_ext, at_table}
use Rattle.scan.specs.Scoring.{energy_floor}
use Rattle.scan_lags.specs.Lags.{product_at, products_of, score_by, score_from, above, above_in}

-- one product more for each of n lags
pub stepped : (near window : List Float) (k i n : ℕ) (sums : List Float) → sums ≡ table (λ j. products_of near window i (k + j)) n
    → table (λ j. add binary64 (at sums j) (mul binary64 (at near i) (at window (k + i + j)))) n ≡ table (λ j. products_of near window (i + 1) (k + j)) n
stepped near window k i n sums e =
    table_ext _ _ n (λ j h.
    let p : k + i + j ≡ k + j + i = omega arith in
    rw p (more (product_at near window (k + j)) i (at sums j) (rw e (at_table (λ (m : ℕ). products_of near window i (k + m)) n j h))))

-- where a lag is not flat, its score is its sum divided by the root
pub live : (near window sums scores old : List Float) (frame k n : ℕ) (power : Float) → sums ≡ table (λ j. products_of near window frame (k + j)) n
    → ((j : ℕ) → j < n → le (at scores (k + j)) energy_floor ≡ false) → Rewritten (score_from near window frame power) old k scores
    → (j : ℕ) → j < n → score_by (at sums j) power (at old (k + j)) ≡ score_from near window frame power (k + j) (at old (k + j))
unfolding score_from
live near window sums scores old frame k n power e above r j h =
    let raised : le (at old (k + j)) energy_floor ≡ false = ap (λ (x : Float). le x energy_floor) (sym (r.left (k + j) (omega arith))) ∙ above j h in
    ap (λ (x : Float). score_by x power (at old (k + j))) (ap (λ (l : List Float). at l j) e ∙ at_table (λ (m : ℕ). products_of near window frame (k + m)) n j h)
    ∙ sym (pick_false _ _ _ raised)

-- ---- the count

pub counted_one_lem : (energy : Float) → le energy energy_floor ≡ false → above energy ≡ 1
counted_one_lem energy h = pick_true _ 1 0 (ap not h)

pub counted_none : (energy : Float) → le energy energy_floor ≡ true → above energy ≡ 0
counted_none energy h = pick_false _ 1 0 (ap not h)

-- one lag more
pub one_counted : (old : List Float) (k : ℕ) → above_in old (k + 1) ≡ above_in old k + above (at old k)
unfolding above_in
one_counted old k = rw add-one

-- a block of n lags more, none of which is flat
pub block_counted : (old : List Float) (k n : ℕ) → ((j : ℕ) → j < n → le (at old (k + j)) energy_floor ≡ false) → above_in old (k + n) ≡ above_in old k + n
block_counted old k zero h = ap (above_in old) (let e : k + 0 ≡ k = omega arith in e) ∙ (let e : above_in old k ≡ above_in old k + 0 = omega arith in e)
block_counted old k (suc n) h =
    let before = block_counted old k n (λ j l. h j (omega arith)) in
    let here = one_counted old (k + n) in
    let one = counted_one_lem (at old (k + n)) (h n (omega arith)) in
    let e : k + suc n ≡ k + n + 1 = omega arith in
    ap (above_in old) e ∙ (let f : above_in old (k + n + 1) ≡ above_in old k + suc n = omega (arith, before, here, one) in f)

at_most_one : (t : Bool) → pick t 1 0 ≤ 1
at_most_one t = pick_all (λ (n : ℕ). n ≤ 1) t 1 0 (omega arith) (omega arith)

pub counted_at_most : (old : List Float) (n : ℕ) → above_in old n ≤ n
unfolding above_in
counted_at_most old zero = omega arith
counted_at_most old (suc n) = omega (arith, counted_at_most old n, at_most_one (not (le (at old n) energy_floor)))
