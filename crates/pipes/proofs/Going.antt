-- Bytes at hand that are used, and an input that is then read on.
use Prim.Native.Nat.{ℕ, zero, suc, ◌+◌, ◌-◌, ◌≤◌, min}
use native.Mathlib.Omega.{arith}
use mathlib.Core.Path.{◌≡◌, refl, sym, ap, ◌∙◌}
use mathlib.Core.Bool.{Bool, true, false, true≢false}
use mathlib.Core.List.{List, [], ◌∷◌, ◌++◌, append_assoc}
use lib.Dec.{leb}
use borrow.Author.Tests.{leb-true, leb-false, eqb-true, eq-eqb}
use lib.ListN.{length, take, drop, drop_of_length-le, length-take}
use lib.Seq.{drop-drop, take-nil}
use Rattle.pipes.specs.declared.window.Window.{Window}
use Rattle.pipes.specs.Window.{Within, at_hand, over, Grown, Moved, Went}

drop_take : (n k : ℕ) (l : List ℕ) → drop n (take k l) ≡ take (k - n) (drop n l)
drop_take zero k l = ap (λ (m : ℕ). take m l) (let z : k ≡ k - 0 = omega arith in z)
drop_take (suc n) zero l = ap (λ (m : ℕ). take m (drop (suc n) l)) (let z : 0 ≡ 0 - suc n = omega arith in z)
drop_take (suc n) (suc k) [] = sym (take-nil (suc k - suc n))
drop_take (suc n) (suc k) (x ∷ l) = drop_take n k l ∙ ap (λ (m : ℕ). take m (drop n l)) (let z : k - n ≡ suc k - suc n = omega arith in z)

append_nothing : (l : List ℕ) → l ++ [] ≡ l
append_nothing [] = refl
append_nothing (c ∷ l) = rw (append_nothing l)

module _ (w : Window) (room : List ℕ) (n : ℕ) where
  hand_most : length (at_hand w room) ≤ w.end - w.at
  hand_most = omega (arith, length-take (w.end - w.at) (drop w.at room))

  used_some : (r : Window) → r.end ≡ w.end → r.at ≡ w.at + n → at_hand r room ≡ drop n (at_hand w room)
  used_some r end at =
      let left : r.end - r.at ≡ w.end - w.at - n = omega (arith, end, at) in
      let turn : w.at + n ≡ r.at = omega (arith, at) in
      ap (λ (k : ℕ). take k (drop r.at room)) left
      ∙ ap (λ (k : ℕ). take (w.end - w.at - n) (drop k room)) (sym turn)
      ∙ sym (drop_take n (w.end - w.at) (drop w.at room) ∙ ap (take (w.end - w.at - n)) (drop-drop n w.at room))

  used_all : (r : Window) → w.end - w.at ≤ n → r.end ≡ r.at → at_hand r room ≡ drop n (at_hand w room)
  used_all r most none =
      let left : r.end - r.at ≡ 0 = omega (arith, none) in
      ap (λ (k : ℕ). take k (drop r.at room)) left ∙ sym (let all : length (at_hand w room) ≤ n = omega (arith, hand_most, most) in drop_of_length-le (at_hand w room) all)

  -- the first n bytes at hand are used, or all of them where there are no more
  pub used_hand : (r : Window) → Within w → r.end ≡ w.end → r.at ≡ w.at + min n (w.end - w.at) → at_hand r room ≡ drop n (at_hand w room)
  used_hand r i end at = by_size (leb n (w.end - w.at)) refl
    where
      by_size : (b : Bool) → leb n (w.end - w.at) ≡ b → at_hand r room ≡ drop n (at_hand w room)
      by_size true h = used_some r end (omega (arith, at, leb-true n (w.end - w.at) h))
      by_size false h = used_all r (omega (arith, leb-false n (w.end - w.at) h)) (omega (arith, at, leb-false n (w.end - w.at) h, end, i.order))

  pub passes : (r : Window) → Within w → Within r → r.left ≤ w.left → r.end ≡ w.end → r.at ≡ w.at + min n (w.end - w.at) → Moved n w room r room
  passes r i within left end at = record { within = within; came = []; joins = used_hand r i end at ∙ sym (append_nothing (drop n (at_hand w room))); counts = omega (arith, left) }

  -- not read on
  pub went_past : (r : Window) → Within w → Within r → r.left ≤ w.left → r.end ≡ w.end → r.at ≡ w.at + min n (w.end - w.at) → Went false n w room r room
  unfolding passes
  went_past r i within left end at = record { moved = passes r i within left end at; none = λ e. refl }

  -- and read on
  pub went_on : (r w' : Window) (room' : List ℕ) → Within w → r.left ≤ w.left → r.end ≡ w.end → r.at ≡ w.at + min n (w.end - w.at) → Grown r room w' room' → Went true n w room w' room'
  went_on r w' room' i left end at g =
      record {
        moved = record { within = g.within; came = g.more; joins = g.joins ∙ ap (λ (l : List ℕ). l ++ g.more) (used_hand r i end at); counts = omega (arith, left, g.counts) };
        none = λ e. absurd (true≢false e);
      }

pub grows : (w w' : Window) (room room' : List ℕ) → Grown w room w' room' → Moved 0 w room w' room'
grows w w' room room' g = record { within = g.within; came = g.more; joins = g.joins; counts = g.counts }

-- ---- at the end of an input nothing comes

no_length : (l : List ℕ) → length l ≡ 0 → l ≡ []
no_length [] e = refl
no_length (c ∷ l) e = absurd (omega (arith, e))

module _ (n : ℕ) (w w' : Window) (room room' : List ℕ) (m : Moved n w room w' room') where
  -- where nothing more may be read, nothing came
  pub nothing_came : over w ≡ true → m.came ≡ []
  nothing_came h = no_length m.came (omega (arith, eqb-true w.left 0 h, m.counts))

  -- and nothing will
  pub nothing_comes : (rest : List ℕ) → (over w' ≡ true → rest ≡ []) → over w ≡ true → m.came ++ rest ≡ []
  nothing_comes rest behind h =
      let last : over w' ≡ true = eq-eqb w'.left 0 (omega (arith, eqb-true w.left 0 h, m.counts)) in
      rw (nothing_came h, behind last)

  -- what a host holds before a turn, told from what it holds after it
  pub hand_on : (rest : List ℕ) → at_hand w' room' ++ rest ≡ drop n (at_hand w room) ++ (m.came ++ rest)
  hand_on rest = ap (λ (l : List ℕ). l ++ rest) m.joins ∙ append_assoc (drop n (at_hand w room)) m.came rest
