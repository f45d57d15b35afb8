-- Laws of sums and tables. `more`, `grow`, `whole`, `rest` and `table_ext` carry every loop, plain and blocked.
use Rattle.std.proofs.Common.{◌≡◌, ℕ, zero, suc, ◌+◌, ◌<◌, ◌≤◌, List, [], ◌∷◌, ◌++◌, length, take, set, sym, refl, ap, ◌∙◌, ⊎_elim, le_of_suc-le-suc, not-suc-le-zero, eq-or-lt_of_le, add-one, arith, length-append, take_all, get_or-set_other, get_or-take, take-suc, take-suc-set}
use lib.ListN.{get_or-append}
use lib.Seq.{take-length, get_or_at}
use lib.Ieee.{Float, nan, binary64, add}
use Rattle.folds.specs.Sums.{upto, table, at}

-- one term more
pub more : (t : ℕ → Float) (i : ℕ) (s : Float) → s ≡ upto t i → add binary64 s (t i) ≡ upto t (i + 1)
unfolding upto
more t i s e = rw add-one (cc)

-- a list whose first i values are a table's, with the next stored
pub grow : (f : ℕ → Float) (l : List Float) (i : ℕ) (v : Float) → i < length l → take i l ≡ table f i → v ≡ f i → take (i + 1) (set l i v) ≡ table f (i + 1)
unfolding table
grow f l i v h e p = rw add-one (cc (take-suc-set l i v h))

-- all of it
pub whole : (f : ℕ → Float) (l : List Float) (n : ℕ) → length l ≡ n → take n l ≡ table f n → l ≡ table f n
whole f l n e h = sym (take_all n l (omega arith)) ∙ h

-- a store at k leaves what stands past it
pub rest : (l raw : List Float) (k : ℕ) (v : Float) → ((j : ℕ) → k ≤ j → at l j ≡ at raw j) → (j : ℕ) → k + 1 ≤ j → at (set l k v) j ≡ at raw j
rest l raw k v h j g = get_or-set_other l k j v nan (λ (e : j ≡ k). omega arith) ∙ h j (omega arith)

-- equal terms, equal sums; equal entries, equal tables
pub upto_ext : (t u : ℕ → Float) (n : ℕ) → ((i : ℕ) → i < n → t i ≡ u i) → upto t n ≡ upto u n
unfolding upto
upto_ext t u zero h = refl
upto_ext t u (suc n) h =
    let a = upto_ext t u n (λ i l. h i (omega arith)) in
    let b = h n (omega arith) in
    cc

pub table_ext : (f g : ℕ → Float) (n : ℕ) → ((i : ℕ) → i < n → f i ≡ g i) → table f n ≡ table g n
unfolding table
table_ext f g zero h = refl
table_ext f g (suc n) h =
    let a = table_ext f g n (λ i l. h i (omega arith)) in
    let b = h n (omega arith) in
    cc

pub length_table : (f : ℕ → Float) (n : ℕ) → length (table f n) ≡ n
unfolding table
length_table f zero = refl
length_table f (suc n) = length-append (table f n) (f n ∷ []) ∙ rw (length_table f n, add-one)

pub at_table : (f : ℕ → Float) (n i : ℕ) → i < n → at (table f n) i ≡ f i
unfolding table
at_table f zero i h = absurd (not-suc-le-zero h)
at_table f (suc n) i h =
    ⊎_elim
    (λ (e : i ≡ n). rw e (get_or_at (table f n) (f n) [] nan n (length_table f n)))
    (λ (l : i < n). get_or-append (table f n) (f n ∷ []) nan i (rw length_table l) ∙ at_table f n i l)
    (eq-or-lt_of_le (le_of_suc-le-suc h))

-- a list's start, and a whole list, as a table
pub takes : (xs : List Float) (i : ℕ) → i ≤ length xs → take i xs ≡ table (at xs) i
unfolding table
takes xs zero h = refl
takes xs (suc i) h = take-suc xs i nan (omega arith) ∙ ap (λ (l : List Float). l ++ (at xs i ∷ [])) (takes xs i (omega arith))

pub tabled : (xs : List Float) → table (at xs) (length xs) ≡ xs
tabled xs = sym (takes xs (length xs) (omega arith)) ∙ take-length xs

-- a list that starts as a table does, value by value
pub front : (f : ℕ → Float) (xs : List Float) (n : ℕ) → take n xs ≡ table f n → (i : ℕ) → i < n → at xs i ≡ f i
front f xs n e i h = sym (get_or-take n xs i nan h) ∙ ap (λ (l : List Float). at l i) e ∙ at_table f n i h
