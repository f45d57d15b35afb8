-- A window, place by place and as a whole.
use Prim.Native.Nat.{ℕ, zero, suc, ◌+◌, ◌-◌, ◌%◌, ◌≤◌, ◌<◌, min}
use mathlib.Core.Path.{◌≡◌, refl, sym, ap, ◌∙◌}
use mathlib.Core.List.{List, [], ◌∷◌, ◌++◌, append_assoc, append-nil}
use mathlib.Core.Bool.{Bool, true, false}
use native.Mathlib.Nat.{add-zero, add-suc}
use native.Mathlib.Omega.{arith}
use lib.Dec.{ltb, leb, eqb}
use lib.ListN.{length, take, drop, get_or, replicate, length-drop}
use lib.Seq.{take-suc, get_or-drop}
use borrow.Author.Tests.{eq-eqb, lt-ltb, le-ltb, le-leb, lt-leb, ltb-true, ltb-false, leb-true, leb-false}
use Rattle.answers.specs.Pick.{pick, pick_true, pick_false}
use Rattle.answers.specs.Refusals.{none}
use Rattle.ring.specs.declared.Ring.{Ring}
use Rattle.ring.specs.declared.Kept.TheVariants as kept
use Rattle.ring.specs.Ring.{ring_refusal, oldest, is_kept, gotten}
use Rattle.ring_window.specs.declared.Cut.{Cut}
use Rattle.ring_window.specs.Cuts.{Cuts, pieces}
use Rattle.ring_window.specs.Statements.{unkept, MissingIsUnkept}
use Rattle.ring_window.specs.Window.{read_at, pattern_of, at_head, at_tail, listed, count_below, patterns}
use Rattle.ring_window.proofs.Slots.{from_first, before_last}

-- ---- one place

module _ (r : Ring) (capacity : ℕ) (z : ring_refusal r capacity ≡ none) where
  gotten_is : (a : ℕ) → gotten r capacity a ≡ pick (is_kept r capacity a) (kept.At (a % capacity)) kept.NotKept
  unfolding gotten
  gotten_is a = pick_true (eqb (ring_refusal r capacity) 0) _ _ (eq-eqb _ 0 z)

  module _ (at back i : ℕ) where
    pub found : back + oldest r capacity ≤ at + i → at + i < back + r.accepted → read_at r capacity at back i ≡ kept.At ((at + i - back) % capacity)
    found low high =
        let a : oldest r capacity ≤ at + i - back = omega (arith, low) in
        let b : at + i - back < r.accepted = omega (arith, low, high) in
        let c : back ≤ at + i = omega (arith, low) in
        pick_false (ltb (at + i) back) _ _ (le-ltb _ _ c)
        ∙ gotten_is (at + i - back)
        ∙ pick_true (is_kept r capacity (at + i - back)) _ _ (pick_true (leb (oldest r capacity) (at + i - back)) _ _ (le-leb _ _ a) ∙ lt-ltb _ _ b)

    pub not_yet : back + r.accepted ≤ at + i → read_at r capacity at back i ≡ kept.NotKept
    not_yet late =
        let b : r.accepted ≤ at + i - back = omega (arith, late) in
        let c : back ≤ at + i = omega (arith, late) in
        let a : oldest r capacity ≤ at + i - back = omega (arith, b) in
        pick_false (ltb (at + i) back) _ _ (le-ltb _ _ c)
        ∙ gotten_is (at + i - back)
        ∙ pick_false (is_kept r capacity (at + i - back)) _ _ (pick_true (leb (oldest r capacity) (at + i - back)) _ _ (le-leb _ _ a) ∙ le-ltb _ _ b)

    pub too_old_lem : at + i < back + oldest r capacity → read_at r capacity at back i ≡ kept.NotKept
    too_old_lem early = go (ltb (at + i) back) refl
      where
        go : (t : Bool) → ltb (at + i) back ≡ t → read_at r capacity at back i ≡ kept.NotKept
        go true e = pick_true (ltb (at + i) back) _ _ e
        go false e =
            let c = ltb-false (at + i) back e in
            let a : at + i - back < oldest r capacity = omega (arith, early, c) in
            pick_false (ltb (at + i) back) _ _ e ∙ gotten_is (at + i - back) ∙ pick_false (is_kept r capacity (at + i - back)) _ _ (pick_false (leb (oldest r capacity) (at + i - back)) _ _ (lt-leb _ _ a))

-- ---- lists

replicate_last : (n x : ℕ) → replicate (suc n) x ≡ replicate n x ++ (x ∷ [])
replicate_last zero x = refl
replicate_last (suc n) x = ap (λ (l : List ℕ). x ∷ l) (replicate_last n x)

listed_split : (f : ℕ → ℕ) (a b : ℕ) → listed f (a + b) ≡ listed f a ++ listed (λ i. f (a + i)) b
unfolding listed
listed_split f a zero = ap (listed f) (add-zero a) ∙ sym (append-nil (listed f a))
listed_split f a (suc b) =
    ap (listed f) (add-suc a b)
    ∙ ap (λ (l : List ℕ). l ++ (f (a + b) ∷ [])) (listed_split f a b)
    ∙ append_assoc (listed f a) (listed (λ i. f (a + i)) b) (f (a + b) ∷ [])

listed_blank : (f : ℕ → ℕ) (n : ℕ) → ((i : ℕ) → i < n → f i ≡ 0) → listed f n ≡ replicate n 0
unfolding listed
listed_blank f zero h = refl
listed_blank f (suc n) h =
    ap (λ (l : List ℕ). l ++ (f n ∷ [])) (listed_blank f n (λ i k. h i (omega (arith, k))))
    ∙ ap (λ (x : ℕ). replicate n 0 ++ (x ∷ [])) (h n (omega arith))
    ∙ sym (replicate_last n 0)

listed_part : (f : ℕ → ℕ) (n : ℕ) (xs : List ℕ) → n ≤ length xs → ((i : ℕ) → i < n → f i ≡ get_or xs i 0) → listed f n ≡ take n xs
unfolding listed
listed_part f zero xs l h = refl
listed_part f (suc n) xs l h =
    ap (λ (k : List ℕ). k ++ (f n ∷ [])) (listed_part f n xs (omega (arith, l)) (λ i k. h i (omega (arith, k))))
    ∙ ap (λ (x : ℕ). take n xs ++ (x ∷ [])) (h n (omega arith))
    ∙ sym (take-suc xs n 0 (omega (arith, l)))

-- ---- counts

count_head : (at y n : ℕ) → count_below (λ i. ltb (at + i) y) n ≡ min n (y - at)
unfolding count_below
count_head at y zero = omega arith
count_head at y (suc n) = ap (λ (k : ℕ). k + pick (ltb (at + n) y) 1 0) (count_head at y n) ∙ go (ltb (at + n) y) refl
  where
    go : (t : Bool) → ltb (at + n) y ≡ t → min n (y - at) + pick (ltb (at + n) y) 1 0 ≡ min (suc n) (y - at)
    go true e = ap (λ (k : ℕ). min n (y - at) + k) (pick_true (ltb (at + n) y) 1 0 e) ∙ omega (arith, ltb-true (at + n) y e)
    go false e = ap (λ (k : ℕ). min n (y - at) + k) (pick_false (ltb (at + n) y) 1 0 e) ∙ omega (arith, ltb-false (at + n) y e)

count_tail : (at y n : ℕ) → count_below (λ i. leb y (at + i)) n ≡ n - min n (y - at)
unfolding count_below
count_tail at y zero = omega arith
count_tail at y (suc n) = ap (λ (k : ℕ). k + pick (leb y (at + n)) 1 0) (count_tail at y n) ∙ go (leb y (at + n)) refl
  where
    go : (t : Bool) → leb y (at + n) ≡ t → n - min n (y - at) + pick (leb y (at + n)) 1 0 ≡ suc n - min (suc n) (y - at)
    go true e = ap (λ (k : ℕ). n - min n (y - at) + k) (pick_true (leb y (at + n)) 1 0 e) ∙ omega (arith, leb-true y (at + n) e)
    go false e = ap (λ (k : ℕ). n - min n (y - at) + k) (pick_false (leb y (at + n)) 1 0 e) ∙ omega (arith, leb-false y (at + n) e)

-- ---- the whole window

end_is : (n y m tail : ℕ) → tail ≡ n - min n y → m + tail ≡ n → m ≡ min n y
end_is n y m tail e w = omega (arith, e, w)

past_last : (n y at m i : ℕ) → m ≡ min n (y - at) → m + i < n → y ≤ at + (m + i)
past_last n y at m i e h = omega (arith, e, h)

module _ (r : Ring) (buf : List ℕ) (at back n : ℕ) (c : Cut) (z : ring_refusal r (length buf) ≡ none) (k : Cuts r.accepted (length buf) at back n c) where
  abbrev shown : ℕ → ℕ
  shown i = pattern_of buf (read_at r (length buf) at back i)

  abbrev between : ℕ
  between = c.run + c.wrapped

  last : c.head + between ≡ min n (back + r.accepted - at)
  last = end_is n _ (c.head + between) c.tail k.tail k.whole

  blank_head : (i : ℕ) → i < c.head → shown i ≡ 0
  blank_head i h = ap (pattern_of buf) (too_old_lem r (length buf) z at back i (before_last n _ at c.head i k.head h))

  blank_tail : (i : ℕ) → i < c.tail → shown (c.head + between + i) ≡ 0
  blank_tail i h =
      let w = k.whole in
      let inside : c.head + between + i < n = omega (arith, w, h) in
      ap (pattern_of buf) (not_yet r (length buf) z at back (c.head + between + i) (past_last n _ at (c.head + between) i last inside))

  kept_at : (i : ℕ) → i < between → shown (c.head + i) ≡ get_or buf ((at + (c.head + i) - back) % length buf) 0
  kept_at i h =
      let w = k.whole in
      let inside : c.head + i < n = omega (arith, w, h) in
      let first : c.head ≤ c.head + i = omega arith in
      let end : c.head + i < c.head + between = omega (arith, h) in
      ap (pattern_of buf) (found r (length buf) z at back (c.head + i) (from_first n _ at c.head (c.head + i) k.head first inside) (before_last n _ at (c.head + between) (c.head + i) last end))

  run_at : (i : ℕ) → i < c.run → shown (c.head + i) ≡ get_or (drop c.slot buf) i 0
  run_at i h = kept_at i (omega (arith, h)) ∙ ap (λ (p : ℕ). get_or buf p 0) (k.runs i h) ∙ sym (get_or-drop c.slot buf i 0)

  wrapped_at : (i : ℕ) → i < c.wrapped → shown (c.head + (c.run + i)) ≡ get_or buf i 0
  wrapped_at i h = kept_at (c.run + i) (omega (arith, h)) ∙ ap (λ (p : ℕ). get_or buf p 0) (k.wraps i h)

  middle : listed (λ i. shown (c.head + i)) between ≡ take c.run (drop c.slot buf) ++ take c.wrapped buf
  middle =
      let l = length-drop c.slot buf in
      let s = k.inside in
      let fits : c.run ≤ length (drop c.slot buf) = omega (arith, l, s) in
      listed_split (λ i. shown (c.head + i)) c.run c.wrapped
      ∙ ap (λ (x : List ℕ). x ++ listed (λ i. shown (c.head + (c.run + i))) c.wrapped) (listed_part _ c.run (drop c.slot buf) fits run_at)
      ∙ ap (λ (x : List ℕ). take c.run (drop c.slot buf) ++ x) (listed_part _ c.wrapped buf k.around wrapped_at)

  pub pieces_are : pieces c buf ≡ patterns r buf at back n
  pieces_are =
      sym
      (ap (listed shown) (sym k.whole)
      ∙ listed_split shown (c.head + between) c.tail
      ∙ ap (λ (x : List ℕ). x ++ listed (λ i. shown (c.head + between + i)) c.tail)
      (listed_split shown c.head between
      ∙ ap (λ (x : List ℕ). x ++ listed (λ i. shown (c.head + i)) between) (listed_blank shown c.head blank_head)
      ∙ ap (λ (x : List ℕ). replicate c.head 0 ++ x) middle
      ∙ sym (append_assoc (replicate c.head 0) (take c.run (drop c.slot buf)) (take c.wrapped buf)))
      ∙ ap (λ (x : List ℕ). replicate c.head 0 ++ take c.run (drop c.slot buf) ++ take c.wrapped buf ++ x) (listed_blank _ c.tail blank_tail))

  pub head_counted : c.head ≡ count_below (at_head r (length buf) at back) n
  head_counted = k.head ∙ sym (count_head at (back + oldest r (length buf)) n)

  pub tail_counted : c.tail ≡ count_below (at_tail r at back) n
  tail_counted = k.tail ∙ sym (count_tail at (back + r.accepted) n)

-- ---- what is missing is what a single read does not find

apart : (p back accepted capacity : ℕ) → p < back + (accepted - capacity) → back + accepted ≤ p → ⊥
apart p back accepted capacity a b = omega (arith, a, b)

module _ (r : Ring) (capacity at back : ℕ) (z : ring_refusal r capacity ≡ none) where
  one_missing : (i : ℕ) → pick (at_head r capacity at back i) 1 0 + pick (at_tail r at back i) 1 0 ≡ pick (unkept (read_at r capacity at back i)) 1 0
  unfolding pick
  one_missing i = go (at_head r capacity at back i) refl (at_tail r at back i) refl
    where
      sum : (s t u : Bool) → at_head r capacity at back i ≡ s → at_tail r at back i ≡ t → unkept (read_at r capacity at back i) ≡ u → pick s 1 0 + pick t 1 0 ≡ pick u 1 0
          → pick (at_head r capacity at back i) 1 0 + pick (at_tail r at back i) 1 0 ≡ pick (unkept (read_at r capacity at back i)) 1 0
      sum s t u a b c e = ap (λ (x : Bool). pick x 1 0 + pick (at_tail r at back i) 1 0) a ∙ ap (λ (x : Bool). pick s 1 0 + pick x 1 0) b ∙ e ∙ sym (ap (λ (x : Bool). pick x 1 0) c)

      go : (s : Bool) → at_head r capacity at back i ≡ s → (t : Bool) → at_tail r at back i ≡ t
          → pick (at_head r capacity at back i) 1 0 + pick (at_tail r at back i) 1 0 ≡ pick (unkept (read_at r capacity at back i)) 1 0
      go true a true b = absurd (apart (at + i) back r.accepted capacity (ltb-true (at + i) (back + oldest r capacity) a) (leb-true (back + r.accepted) (at + i) b))
      go true a false b = sum true false true a b (ap unkept (too_old_lem r capacity z at back i (ltb-true _ _ a))) refl
      go false a true b = sum false true true a b (ap unkept (not_yet r capacity z at back i (leb-true _ _ b))) refl
      go false a false b = sum false false false a b (ap unkept (found r capacity z at back i (ltb-false _ _ a) (leb-false _ _ b))) refl

  missing_below_lem : (n : ℕ) → count_below (at_head r capacity at back) n + count_below (at_tail r at back) n ≡ count_below (λ i. unkept (read_at r capacity at back i)) n
  unfolding count_below
  missing_below_lem zero = refl
  missing_below_lem (suc n) = let a = missing_below_lem n in let b = one_missing n in omega (arith, a, b)

pub missing_is_unkept : MissingIsUnkept
missing_is_unkept r capacity at back n z = missing_below_lem r capacity at back z n
