-- `least_differing` is the least differing number, and there is but one; so the first difference of two lists is that of their lists without a common front.
use Rattle.std.specs.Prelude.{Option, Some, None}
use Prim.Native.Nat.{ℕ, ◌+◌, ◌≤◌, ◌<◌}
use mathlib.Core.Path.{◌≡◌, refl, sym, ap, subst, ◌∙◌}
use mathlib.Core.Bool.{Bool, true, false, not, true≢false, false≢true}
use mathlib.Core.List.{List, [], ◌∷◌, ◌++◌}
use native.Mathlib.Omega.{arith}
use native.Mathlib.Decide.{dec_lt}
use lib.Dec.{eqb, leb}
use borrow.Author.Tests.{eqb-true, eqb-false, leb-true, leb-false}
use Rattle.answers.specs.Pick.{pick_true, pick_false, pick_all, pick_case}
use Rattle.log_lines.specs.declared.Line.{Line}
use Rattle.log_parts.specs.Sorts.{number_of, same_line, Rising, differ}
use Rattle.log_parts.specs.Numbers.{line_at, absent, differs_at, Found, NoNumber, Number, lesser, least_of, least_differing, first_at, first_by_number, PassesTest, Reaches, Least}
use Rattle.log_parts.proofs.Numbers.{at_head, at_other, at_below, first_alone, second_alone, pair_at, pair_off}

-- ---- the least number that passes

lesser_passes : (test : ℕ → Bool) (n : ℕ) (r : Found) → test n ≡ true → PassesTest test r → PassesTest test (lesser n r)
lesser_passes test n NoNumber e p = e
lesser_passes test n (Number m) e p = pick_all (λ (k : ℕ). test k ≡ true) (leb n m) n m e p

lesser_itself : (n : ℕ) (r : Found) → Reaches n (lesser n r)
lesser_itself n NoNumber = omega arith
lesser_itself n (Number m) = pick_case (λ (k : ℕ). k ≤ n) (leb n m) n m (λ e. omega arith) (λ e. omega (arith, leb-false n m e))

lesser_reaches : (m n : ℕ) (r : Found) → Reaches m r → Reaches m (lesser n r)
lesser_reaches m n NoNumber h = absurd h
lesser_reaches m n (Number k) h = pick_case (λ (j : ℕ). j ≤ m) (leb n k) n k (λ e. omega (arith, leb-true n k e, h)) (λ e. h)

found_passes : (test : ℕ → Bool) (ls : List Line) → PassesTest test (least_of test ls)
unfolding least_of
found_passes test [] = record {}
found_passes test (l ∷ ls) =
    pick_case (PassesTest test) (test (number_of l)) _ _ (λ e. lesser_passes test (number_of l) (least_of test ls) e (found_passes test ls)) (λ e. found_passes test ls)

-- a number of the list that passes is at least the one found
found_least : (test : ℕ → Bool) (ls : List Line) (m : ℕ) → test m ≡ true → absent (line_at m ls) ≡ false → Reaches m (least_of test ls)
unfolding least_of line_at
found_least test [] m t e = absurd (true≢false e)
found_least test (l ∷ ls) m t e =
    pick_case (λ (s : Option Line). absent s ≡ false → Reaches m (least_of test (l ∷ ls))) (eqb (number_of l) m) (Some l) (line_at m ls)
    (λ h e. let same = eqb-true (number_of l) m h in
    rw (least_of, pick_true _ _ _ (ap test same ∙ t), same) (lesser_itself m (least_of test ls)))
    (λ h e. let r = found_least test ls m t e in
    pick_all (Reaches m) (test (number_of l)) _ _ (lesser_reaches m (number_of l) (least_of test ls) r) r)
    e

-- ---- a number that neither has does not differ

absent_both : (m : ℕ) (a b : List Line) → absent (line_at m (a ++ b)) ≡ true → (line_at m a ≡ None) × (line_at m b ≡ None)
unfolding line_at
absent_both m [] b e = (refl, gone (line_at m b) e)
  where
    gone : (s : Option Line) → absent s ≡ true → s ≡ None
    gone None e = refl
    gone (Some l) e = absurd (false≢true e)
absent_both m (x ∷ a) b e =
    pick_case (λ (s : Option Line). absent s ≡ true → (line_at m (x ∷ a) ≡ None) × (line_at m b ≡ None)) (eqb (number_of x) m) (Some x) (line_at m (a ++ b))
    (λ h e. absurd (false≢true e))
    (λ h e. let r = absent_both m a b e in (pick_false _ _ _ h ∙ r.0, r.1))
    e

pub nowhere : (a b : List Line) (m : ℕ) → line_at m a ≡ None → line_at m b ≡ None → differs_at a b m ≡ false
unfolding differs_at
nowhere a b m p q = rw (p, q)

held : (a b : List Line) (m : ℕ) → differs_at a b m ≡ true → absent (line_at m (a ++ b)) ≡ false
held a b m t = each (absent (line_at m (a ++ b))) refl
  where
    each : (c : Bool) → absent (line_at m (a ++ b)) ≡ c → absent (line_at m (a ++ b)) ≡ false
    each true e = let r = absent_both m a b e in absurd (true≢false (sym t ∙ nowhere a b m r.0 r.1))
    each false e = e

-- the least differing number: it differs, and every number that does is at least it
pub least_differing_lem : (a b : List Line) → Least (differs_at a b) (least_differing a b)
unfolding least_differing
least_differing_lem a b = record { passes = found_passes (differs_at a b) (a ++ b); least = λ m t. found_least (differs_at a b) (a ++ b) m t (held a b m t) }

-- ---- there is but one

pub least_one : (test : ℕ → Bool) (r s : Found) → Least test r → Least test s → r ≡ s
least_one test NoNumber NoNumber p q = refl
least_one test NoNumber (Number n) p q = absurd (p.least n q.passes)
least_one test (Number m) NoNumber p q = absurd (q.least m p.passes)
least_one test (Number m) (Number n) p q = let e : m ≡ n = omega (arith, p.least n q.passes, q.least m p.passes) in rw e

-- tests that agree have the same least
pub least_along : (f g : ℕ → Bool) (r : Found) → ((n : ℕ) → f n ≡ g n) → Least f r → Least g r
least_along f g r h p = record { passes = each r p.passes; least = λ m t. p.least m (h m ∙ t) }
  where
    each : (r : Found) → PassesTest f r → PassesTest g r
    each NoNumber p = record {}
    each (Number n) p = sym (h n) ∙ p

-- a first difference is told by the least number
pub first_is : (a b : List Line) (r : Found) → Least (differs_at a b) r → first_by_number a b ≡ first_at a b r
unfolding first_by_number
first_is a b r p = ap (first_at a b) (least_one (differs_at a b) (least_differing a b) r (least_differing_lem a b) p)

-- the number of the front is the least where it differs
module _ (k : ℕ) (a b : List Line) (ra : Rising k a) (rb : Rising k b) where
  nothing_below : (m : ℕ) → differs_at a b m ≡ true → k ≤ m
  nothing_below m t = each (dec_lt m k)
    where
      each : Dec (m < k) → k ≤ m
      each (yes l) = absurd (true≢false (sym t ∙ nowhere a b m (at_below k a m ra l) (at_below k b m rb l)))
      each (no l) = omega (arith, l)

  front_first : differs_at a b k ≡ true → first_by_number a b ≡ differ (line_at k a) (line_at k b)
  front_first t = first_is a b (Number k) (record { passes = t; least = nothing_below })

-- ---- a line whose number is below all of the other list

-- rising from above a line's number is rising from that number
lower : (k : ℕ) (a : List Line) → Rising (k + 1) a → Rising k a
lower k [] r = record {}
lower k (x ∷ a) r = (omega (arith, r.0), r.1)

module _ (x : Line) (a b : List Line) (ra : Rising (number_of x + 1) a) (rb : Rising (number_of x + 1) b) where
  pub first_told : first_by_number (x ∷ a) b ≡ differ (Some x) None
  first_told =
      front_first (number_of x) (x ∷ a) b (omega arith, ra) (lower (number_of x) b rb) (first_alone x a b ra rb)
      ∙ rw (at_head x a, at_below (number_of x + 1) b (number_of x) rb (omega arith))

  pub second_told : first_by_number a (x ∷ b) ≡ differ None (Some x)
  second_told =
      front_first (number_of x) a (x ∷ b) (lower (number_of x) a ra) (omega arith, rb) (second_alone x a b ra rb)
      ∙ rw (at_head x b, at_below (number_of x + 1) a (number_of x) ra (omega arith))

-- ---- two lines of one number

module _ (x y : Line) (a b : List Line) (same : number_of x ≡ number_of y) (ra : Rising (number_of x + 1) a) (rb : Rising (number_of x + 1) b) where
  pub other_told : same_line x y ≡ false → first_by_number (x ∷ a) (y ∷ b) ≡ differ (Some x) (Some y)
  other_told s =
      let h : line_at (number_of x) (y ∷ b) ≡ Some y = ap (λ (n : ℕ). line_at n (y ∷ b)) same ∙ at_head y b in
      front_first (number_of x) (x ∷ a) (y ∷ b) (omega arith, ra) (omega (arith, same), subst (λ (n : ℕ). Rising (n + 1) b) same rb) (pair_at x y a b same ra rb ∙ ap not s)
      ∙ rw (at_head x a, h)

  -- equal lines are differing nowhere, so what is behind them decides
  pair_same : same_line x y ≡ true → (n : ℕ) → differs_at a b n ≡ differs_at (x ∷ a) (y ∷ b) n
  pair_same s n = each (eqb (number_of x) n) refl
    where
      each : (c : Bool) → eqb (number_of x) n ≡ c → differs_at a b n ≡ differs_at (x ∷ a) (y ∷ b) n
      each true e =
          let is : number_of x ≡ n = eqb-true (number_of x) n e in
          let low : n < number_of x + 1 = omega (arith, is) in
          nowhere a b n (at_below (number_of x + 1) a n ra low) (at_below (number_of x + 1) b n rb low)
          ∙ sym (ap (differs_at (x ∷ a) (y ∷ b)) (sym is) ∙ pair_at x y a b same ra rb ∙ ap not s)
      each false e = sym (pair_off x y a b same ra rb n (eqb-false (number_of x) n e))

  pub same_told : same_line x y ≡ true → first_by_number (x ∷ a) (y ∷ b) ≡ first_by_number a b
  unfolding first_by_number
  same_told s =
      first_is (x ∷ a) (y ∷ b) (least_differing a b) (least_along (differs_at a b) (differs_at (x ∷ a) (y ∷ b)) (least_differing a b) (pair_same s) (least_differing_lem a b))
      ∙ each (least_differing a b) (least_differing_lem a b).passes
    where
      each : (r : Found) → PassesTest (differs_at a b) r → first_at (x ∷ a) (y ∷ b) r ≡ first_at a b r
      each NoNumber p = refl
      each (Number n) p =
          let off : number_of x ≡ n → ⊥ = λ e. true≢false (sym p ∙ nowhere a b n (at_below (number_of x + 1) a n ra (omega (arith, e))) (at_below (number_of x + 1) b n rb (omega (arith, e)))) in
          rw (at_other x a n off, at_other y b n (λ e. off (same ∙ e)))
