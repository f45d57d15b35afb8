-- Lines joined and cut again are the lines, with the last newline and without it; and nothing else is cut into them.
use Prim.Native.Nat.{ℕ}
use mathlib.Core.Path.{◌≡◌, refl, sym, ap, subst, ◌∙◌}
use mathlib.Core.Logic.{◌↔◌, ◌⊎◌, inl, inr, ⊎_elim}
use mathlib.Core.Bool.{Bool, true, false, true≢false, false≢true}
use mathlib.Core.List.{List, [], ◌∷◌, ◌++◌, append_assoc}
use lib.Dec.{eqb}
use borrow.Author.Tests.{eqb-true, eq-eqb}
use Rattle.answers.specs.Pick.{pick, pick_true, pick_false, pick_case}
use Rattle.answers.proofs.Passed.{both_true}
use Rattle.log_text.specs.Text.{newline, empty, same_text, plain, split_into, lines_of, joined, AllPlain, NoneEmpty}

-- ---- the test of two texts

pub same_texts : (t u : List ℕ) → same_text t u ≡ true → t ≡ u
unfolding same_text
same_texts [] [] e = refl
same_texts [] (d ∷ u) e = absurd (false≢true e)
same_texts (c ∷ t) [] e = absurd (false≢true e)
same_texts (c ∷ t) (d ∷ u) e =
    let b = both_true (eqb c d) (same_text t u) e in
    rw (eqb-true c d b.0, same_texts t u b.1)

pub text_itself : (t : List ℕ) → same_text t t ≡ true
unfolding same_text
text_itself [] = refl
text_itself (c ∷ t) = pick_true _ _ _ (eq-eqb c c refl) ∙ text_itself t

-- two texts that the test tells apart are not one
pub other_texts : (t u : List ℕ) → same_text t u ≡ false → t ≡ u → ⊥
other_texts t u e h = true≢false (sym (text_itself t) ∙ ap (λ (v : List ℕ). same_text t v) h ∙ e)

pub text_turned : (t u : List ℕ) → same_text u t ≡ same_text t u
unfolding same_text
text_turned t u = turn (same_text t u) refl
  where
    turn : (b : Bool) → same_text t u ≡ b → same_text u t ≡ same_text t u
    turn true e = rw (same_texts t u e)
    turn false e = other (same_text u t) refl ∙ sym e
      where
        other : (c : Bool) → same_text u t ≡ c → same_text u t ≡ false
        other true f = absurd (other_texts t u e (sym (same_texts u t f)))
        other false f = f

-- a test that is passed exactly by equal texts is `same_text`
pub same_is : (r : Bool) (t u : List ℕ) → (r ≡ true → t ≡ u) → (t ≡ u → r ≡ true) → r ≡ same_text t u
same_is true t u p q = sym (text_itself t) ∙ rw (p refl)
same_is false t u p q = none (same_text t u) refl
  where
    none : (b : Bool) → same_text t u ≡ b → false ≡ same_text t u
    none true e = q (same_texts t u e) ∙ sym e
    none false e = sym e

-- ---- joined, then cut

pub append_nothing : {A : Type 0} (l : List A) → l ++ [] ≡ l
append_nothing [] = refl
append_nothing (c ∷ l) = rw (append_nothing l)

-- a plain text goes on with the line so far
pub plain_on : (l t u : List ℕ) → plain t ≡ true → split_into l (t ++ u) ≡ split_into (l ++ t) u
unfolding split_into
plain_on l [] u p = rw (append_nothing l)
plain_on l (c ∷ t) u p =
    pick_case (λ (b : Bool). b ≡ true → split_into l ((c ∷ t) ++ u) ≡ split_into (l ++ c ∷ t) u) (eqb c newline) false (plain t)
    (λ e f. absurd (false≢true f))
    (λ e f. pick_false _ _ _ e ∙ plain_on (l ++ c ∷ []) t u f ∙ ap (λ (k : List ℕ). split_into k u) (append_assoc l (c ∷ []) t))
    p

-- a line and its newline are cut off
pub cut_line : (l t : List ℕ) → plain l ≡ true → lines_of (l ++ newline ∷ t) ≡ l ∷ lines_of t
unfolding lines_of split_into pick
cut_line l t p = plain_on [] l (newline ∷ t) p

-- lines without newlines, each with a newline behind it, then a text without one: the lines, and that text if it is not empty
pub cut_joined : (ls : List (List ℕ)) (t : List ℕ) → AllPlain ls → lines_of (joined ls ++ t) ≡ ls ++ lines_of t
unfolding joined
cut_joined [] t p = refl
cut_joined (l ∷ ls) t p =
    ap lines_of (append_assoc l (newline ∷ joined ls) t)
    ∙ cut_line l (joined ls ++ t) p.0
    ∙ ap (λ (k : List (List ℕ)). l ∷ k) (cut_joined ls t p.1)

-- with the last newline
pub lines_back : (ls : List (List ℕ)) → AllPlain ls → lines_of (joined ls) ≡ ls
unfolding lines_of split_into pick
lines_back ls p = ap lines_of (sym (append_nothing (joined ls))) ∙ cut_joined ls [] p ∙ append_nothing ls

-- and without it: the last line is not empty
pub lines_back_unended : (ls : List (List ℕ)) (l : List ℕ) → AllPlain ls → plain l ≡ true → empty l ≡ false → lines_of (joined ls ++ l) ≡ ls ++ l ∷ []
unfolding lines_of split_into
lines_back_unended ls l p q e =
    cut_joined ls l p
    ∙ ap (λ (k : List (List ℕ)). ls ++ k) (ap lines_of (sym (append_nothing l)) ∙ plain_on [] l [] q ∙ pick_false _ _ _ e)

-- ---- cut, then joined

-- nothing is lost: the lines joined are the text, or the text with a newline behind it
whole : (l t : List ℕ) → (joined (split_into l t) ≡ l ++ t) ⊎ (joined (split_into l t) ≡ l ++ (t ++ newline ∷ []))
unfolding split_into joined pick
whole [] [] = inl refl
whole (c ∷ l) [] = inr refl
whole l (c ∷ t) =
    let Q : List (List ℕ) → Type 0 = λ ls. (joined ls ≡ l ++ (c ∷ t)) ⊎ (joined ls ≡ l ++ ((c ∷ t) ++ newline ∷ [])) in
    pick_case Q (eqb c newline) _ _
    (λ e. let is : newline ≡ c = sym (eqb-true c newline e) in
    ⊎_elim
    (λ h. inl (ap (λ (u : List ℕ). l ++ newline ∷ u) h ∙ ap (λ (d : ℕ). l ++ d ∷ t) is))
    (λ h. inr (ap (λ (u : List ℕ). l ++ newline ∷ u) h ∙ ap (λ (d : ℕ). l ++ d ∷ (t ++ newline ∷ [])) is))
    (whole [] t))
    (λ e. ⊎_elim (λ h. inl (h ∙ append_assoc l (c ∷ []) t)) (λ h. inr (h ∙ append_assoc l (c ∷ []) (t ++ newline ∷ []))) (whole (l ++ c ∷ []) t))

pub nothing_lost : (t : List ℕ) → (joined (lines_of t) ≡ t) ⊎ (joined (lines_of t) ≡ t ++ newline ∷ [])
unfolding lines_of
nothing_lost t = whole [] t

plain_more : (l : List ℕ) (c : ℕ) → plain l ≡ true → eqb c newline ≡ false → plain (l ++ c ∷ []) ≡ true
plain_more [] c p e = pick_false _ _ _ e
plain_more (d ∷ l) c p e =
    pick_case (λ (b : Bool). b ≡ true → plain ((d ∷ l) ++ c ∷ []) ≡ true) (eqb d newline) false (plain l)
    (λ h f. absurd (false≢true f))
    (λ h f. pick_false _ _ _ h ∙ plain_more l c f e)
    p

all_plain : (l t : List ℕ) → plain l ≡ true → AllPlain (split_into l t)
unfolding split_into
all_plain l [] p = pick_case AllPlain (empty l) _ _ (λ e. record {}) (λ e. (p, record {}))
all_plain l (c ∷ t) p = pick_case AllPlain (eqb c newline) _ _ (λ e. (p, all_plain [] t refl)) (λ e. all_plain (l ++ c ∷ []) t (plain_more l c p e))

-- no line holds a newline
pub lines_plain : (t : List ℕ) → AllPlain (lines_of t)
unfolding lines_of
lines_plain t = all_plain [] t refl

-- ---- exactly these texts have these lines

empty_last : (ls : List (List ℕ)) → NoneEmpty (ls ++ [] ∷ []) → ⊥
empty_last [] n = true≢false n.0
empty_last (l ∷ ls) n = empty_last ls n.1

unended : (t : List ℕ) (ls : List (List ℕ)) → AllPlain ls → NoneEmpty ls → t ++ newline ∷ [] ≡ joined ls → (joined (lines_of t) ≡ t) ⊎ (joined (lines_of t) ≡ t ++ newline ∷ []) → lines_of t ≡ ls
unfolding lines_of split_into pick
unended t ls p n e (inl h) =
    let back : ls ≡ lines_of t ++ [] ∷ [] = sym (lines_back ls p) ∙ ap lines_of (sym e ∙ ap (λ (u : List ℕ). u ++ newline ∷ []) (sym h)) ∙ cut_joined (lines_of t) (newline ∷ []) (lines_plain t) in
    absurd (empty_last (lines_of t) (subst NoneEmpty back n))
unended t ls p n e (inr h) = sym (lines_back (lines_of t) (lines_plain t)) ∙ ap lines_of (h ∙ e) ∙ lines_back ls p

-- a text has these lines exactly if it is the lines joined, with the last newline or without it
pub lines_exactly : (t : List ℕ) (ls : List (List ℕ)) → AllPlain ls → NoneEmpty ls → (lines_of t ≡ ls) ↔ ((t ≡ joined ls) ⊎ (t ++ newline ∷ [] ≡ joined ls))
lines_exactly t ls p n = (
  (λ e. ⊎_elim (λ h. inl (sym h ∙ ap joined e)) (λ h. inr (sym h ∙ ap joined e)) (nothing_lost t)),
  ⊎_elim (λ h. ap lines_of h ∙ lines_back ls p) (λ h. unended t ls p n h (nothing_lost t)),
)
