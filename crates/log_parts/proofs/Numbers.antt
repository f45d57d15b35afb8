-- The definitions by number, one line taken off a list at a time; over rising numbers.
use Rattle.std.specs.Prelude.{Some, None}
use Prim.Native.Nat.{ℕ, ◌+◌, ◌≤◌, ◌<◌}
use mathlib.Core.Path.{◌≡◌, refl, sym, ap, ◌∙◌}
use mathlib.Core.Bool.{Bool, true, false, not}
use mathlib.Core.List.{List, [], ◌∷◌}
use native.Mathlib.Omega.{arith}
use borrow.Author.Tests.{eq-eqb, ne_eqb}
use Rattle.answers.specs.Pick.{pick, pick_true, pick_false}
use Rattle.log_lines.specs.declared.Line.{Line}
use Rattle.log_parts.specs.Sorts.{number_of, same_line, Rising}
use Rattle.log_parts.specs.Numbers.{line_at, absent, differs_at, count, differing}

-- ---- the line of a number

pub at_head : (x : Line) (a : List Line) → line_at (number_of x) (x ∷ a) ≡ Some x
unfolding line_at
at_head x a = pick_true _ _ _ (eq-eqb (number_of x) (number_of x) refl)

pub at_other : (x : Line) (a : List Line) (n : ℕ) → (number_of x ≡ n → ⊥) → line_at n (x ∷ a) ≡ line_at n a
unfolding line_at
at_other x a n h = pick_false _ _ _ (ne_eqb (number_of x) n h)

-- rising numbers hold none below the first
pub at_below : (k : ℕ) (a : List Line) (n : ℕ) → Rising k a → n < k → line_at n a ≡ None
unfolding line_at
at_below k [] n r h = refl
at_below k (x ∷ a) n r h = at_other x a n (λ e. omega (arith, r.0, e)) ∙ at_below (number_of x + 1) a n r.1 (omega (arith, r.0))

-- ---- counts

-- two tests that agree on the numbers of a list count the same
count_same : (k : ℕ) (ls : List Line) (f g : Line → Bool) → Rising k ls → ((l : Line) → k ≤ number_of l → f l ≡ g l) → count f ls ≡ count g ls
unfolding count
count_same k [] f g r h = refl
count_same k (x ∷ ls) f g r h = rw (h x r.0, count_same (number_of x + 1) ls f g r.1 (λ l m. h l (omega (arith, r.0, m))))

count_yes : (test : Line → Bool) (x : Line) (ls : List Line) → test x ≡ true → count test (x ∷ ls) ≡ count test ls + 1
unfolding count pick
count_yes test x ls e = rw e (omega arith)

count_no : (test : Line → Bool) (x : Line) (ls : List Line) → test x ≡ false → count test (x ∷ ls) ≡ count test ls
unfolding count pick
count_no test x ls e = rw e (omega arith)

-- ---- where a line that is taken off differs

module _ (x : Line) (a b : List Line) (n : ℕ) where
  pub off_first : (number_of x ≡ n → ⊥) → differs_at (x ∷ a) b n ≡ differs_at a b n
  unfolding differs_at
  off_first h = rw (at_other x a n h)

  pub off_second : (number_of x ≡ n → ⊥) → differs_at a (x ∷ b) n ≡ differs_at a b n
  unfolding differs_at
  off_second h = rw (at_other x b n h)

-- ---- a line whose number is below all of the other list

module _ (x : Line) (a b : List Line) (ra : Rising (number_of x + 1) a) (rb : Rising (number_of x + 1) b) where
  pub first_alone : differs_at (x ∷ a) b (number_of x) ≡ true
  unfolding differs_at
  first_alone = rw (at_head x a, at_below (number_of x + 1) b (number_of x) rb (omega arith))

  pub second_alone : differs_at a (x ∷ b) (number_of x) ≡ true
  unfolding differs_at
  second_alone = rw (at_head x b, at_below (number_of x + 1) a (number_of x) ra (omega arith))

  pub first_counts : differing (x ∷ a) b ≡ differing a b + 1
  unfolding differing
  first_counts =
      let h = count_yes (λ l. differs_at (x ∷ a) b (number_of l)) x a first_alone in
      let i = count_same (number_of x + 1) a (λ l. differs_at (x ∷ a) b (number_of l)) (λ l. differs_at a b (number_of l)) ra (λ l m. off_first x a b (number_of l) (λ e. omega (arith, m, e))) in
      let j = count_same (number_of x + 1) b (λ l. absent (line_at (number_of l) (x ∷ a))) (λ l. absent (line_at (number_of l) a)) rb (λ l m. ap absent (at_other x a (number_of l) (λ e. omega (arith, m, e)))) in
      omega (arith, h, i, j)

  pub second_counts : differing a (x ∷ b) ≡ differing a b + 1
  unfolding differing
  second_counts =
      let h = count_yes (λ l. absent (line_at (number_of l) a)) x b (ap absent (at_below (number_of x + 1) a (number_of x) ra (omega arith))) in
      let i = count_same (number_of x + 1) a (λ l. differs_at a (x ∷ b) (number_of l)) (λ l. differs_at a b (number_of l)) ra (λ l m. off_second x a b (number_of l) (λ e. omega (arith, m, e))) in
      omega (arith, h, i)

-- ---- two lines of one number

module _ (x y : Line) (a b : List Line) (same : number_of x ≡ number_of y) (ra : Rising (number_of x + 1) a) (rb : Rising (number_of x + 1) b) where
  pub pair_at : differs_at (x ∷ a) (y ∷ b) (number_of x) ≡ not (same_line x y)
  unfolding differs_at
  pair_at =
      let h : line_at (number_of x) (y ∷ b) ≡ Some y = ap (λ (n : ℕ). line_at n (y ∷ b)) same ∙ at_head y b in
      rw (at_head x a, h)

  pub pair_off : (n : ℕ) → (number_of x ≡ n → ⊥) → differs_at (x ∷ a) (y ∷ b) n ≡ differs_at a b n
  pair_off n h = off_first x a (y ∷ b) n h ∙ off_second y a b n (λ e. h (same ∙ e))

  -- what is counted behind the two
  behind_first : count (λ l. differs_at (x ∷ a) (y ∷ b) (number_of l)) a ≡ count (λ l. differs_at a b (number_of l)) a
  behind_first = count_same (number_of x + 1) a _ _ ra (λ l m. pair_off (number_of l) (λ e. omega (arith, m, e)))

  behind_second : count (λ l. absent (line_at (number_of l) (x ∷ a))) (y ∷ b) ≡ count (λ l. absent (line_at (number_of l) a)) b
  behind_second =
      let h : line_at (number_of y) (x ∷ a) ≡ Some x = ap (λ (n : ℕ). line_at n (x ∷ a)) (sym same) ∙ at_head x a in
      count_no (λ l. absent (line_at (number_of l) (x ∷ a))) y b (ap absent h)
      ∙ count_same (number_of x + 1) b _ _ rb (λ l m. ap absent (at_other x a (number_of l) (λ e. omega (arith, m, e))))

  pub same_counts : same_line x y ≡ true → differing (x ∷ a) (y ∷ b) ≡ differing a b
  unfolding differing
  same_counts s =
      let h = count_no (λ l. differs_at (x ∷ a) (y ∷ b) (number_of l)) x a (pair_at ∙ ap not s) in
      omega (arith, h, behind_first, behind_second)

  pub other_counts : same_line x y ≡ false → differing (x ∷ a) (y ∷ b) ≡ differing a b + 1
  unfolding differing
  other_counts s =
      let h = count_yes (λ l. differs_at (x ∷ a) (y ∷ b) (number_of l)) x a (pair_at ∙ ap not s) in
      omega (arith, h, behind_first, behind_second)
