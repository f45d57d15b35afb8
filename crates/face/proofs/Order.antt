-- What is known of a call that the face refuses, and of one that it lets pass.
use Prim.Native.Nat.{ℕ}
use mathlib.Core.Path.{◌≡◌, sym, ap, ◌∙◌}
use mathlib.Core.Bool.{Bool}
use mathlib.Core.List.{List}
use lib.ListN.{length}
use borrow.Author.Tests.{eq-eqb, ne_eqb, eqb-true}
use Rattle.answers.specs.Pick.{pick_true, pick_false}
use Rattle.answers.proofs.Refusals.{passed}
use Rattle.words.specs.Words.{fits}
use Rattle.face.specs.Face.{Left, left, setting_first, judged, unless_refused}

-- ---- where nothing is refused, the lists have their lengths

pub list_fits : (allowed : Bool) (n : ℕ) (xs : List ℕ) → setting_first allowed (fits n xs) ≡ 0 → length xs ≡ n
unfolding setting_first
list_fits allowed n xs e = eqb-true (length xs) n (passed _ _ _ (passed _ _ _ e).1).0

pub state_fits : (n : ℕ) (ws : List ℕ) (allowed valuesFit : Bool) → judged (fits n ws) allowed valuesFit ≡ 0 → length ws ≡ n
unfolding judged
state_fits n ws allowed valuesFit e = eqb-true (length ws) n (passed _ _ _ e).0

pub values_fit : (stateFits allowed : Bool) (n : ℕ) (vs : List ℕ) → judged stateFits allowed (fits n vs) ≡ 0 → length vs ≡ n
unfolding judged
values_fit stateFits allowed n vs e = list_fits allowed n vs (passed _ _ _ e).1

-- ---- what the call leaves, list by list

module _ {B : Type 0} (n : ℕ) (ws vs : List ℕ) (b : B) (done : Left B) where
  -- refused with m, it leaves all
  pub refused : (m : ℕ) → m ≡ n → (m ≡ 0 → ⊥) → left m ws vs b ≡ unless_refused n ws vs b done
  unfolding unless_refused
  refused m e h = ap (λ (k : ℕ). left k ws vs b) e ∙ sym (pick_false _ _ _ (ne_eqb n 0 (λ z. h (e ∙ z))))

  pub let_pass : (m : ℕ) → m ≡ n → m ≡ 0 → done ≡ unless_refused n ws vs b done
  unfolding unless_refused
  let_pass m e z = sym (pick_true _ _ _ (eq-eqb n 0 (sym e ∙ z)))

-- ---- part by part, what two calls leave that leave the same

module _ {B : Type 0} {x y : Left B} (e : x ≡ y) where
  pub number_is : x.number ≡ y.number
  number_is = ap (λ (l : Left B). l.number) e

  pub words_are : x.words ≡ y.words
  words_are = ap (λ (l : Left B). l.words) e

  pub values_are : x.values ≡ y.values
  values_are = ap (λ (l : Left B). l.values) e

  pub buffers_are : x.buffers ≡ y.buffers
  buffers_are = ap (λ (l : Left B). l.buffers) e
