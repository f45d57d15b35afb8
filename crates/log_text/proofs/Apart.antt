-- What `first_apart` answers: `Same` exactly if the lists are equal, else the first wrong line.
use Prim.Native.Nat.{ℕ, ◌+◌}
use mathlib.Core.Path.{◌≡◌, refl, sym, ap, ◌∙◌}
use mathlib.Core.Logic.{◌↔◌}
use mathlib.Core.Bool.{Bool, true, false}
use mathlib.Core.List.{List, [], ◌∷◌}
use native.Mathlib.Omega.{arith}
use Rattle.answers.specs.Pick.{pick, pick_true, pick_case}
use Rattle.log_text.specs.Text.{same_text}
use Rattle.log_text.specs.Apart.{Side, Apart, Same, At, first_apart, FirstWrong, exchanged}
use Rattle.log_text.proofs.Text.{same_texts, text_itself, other_texts, text_turned}

-- two constructors are never equal: `cc` proves this of them
clash : {A : Type 0} → ◌≡◌ {A = ℕ} 0 1 → A
clash z = absurd (omega (arith, z))

same_lists : (n : ℕ) (xs ys : List (List ℕ)) → first_apart n xs ys ≡ Same → xs ≡ ys
unfolding first_apart
same_lists n [] [] e = refl
same_lists n [] (y ∷ ys) e = clash (cc)
same_lists n (x ∷ xs) [] e = clash (cc)
same_lists n (x ∷ xs) (y ∷ ys) e =
    pick_case (λ (a : Apart). a ≡ Same → x ∷ xs ≡ y ∷ ys) (same_text x y) _ _
    (λ s e. let head : x ≡ y = same_texts x y s in let rest : xs ≡ ys = same_lists (n + 1) xs ys e in cc)
    (λ s e. clash (cc))
    e

apart_itself : (n : ℕ) (xs : List (List ℕ)) → first_apart n xs xs ≡ Same
unfolding first_apart
apart_itself n [] = refl
apart_itself n (x ∷ xs) = pick_true _ _ _ (text_itself x) ∙ apart_itself (n + 1) xs

-- request k: a log is accepted exactly if it is the log of its recording
pub same_exactly : (n : ℕ) (xs ys : List (List ℕ)) → (first_apart n xs ys ≡ Same) ↔ (xs ≡ ys)
same_exactly n xs ys = (same_lists n xs ys, λ e. ap (λ (l : List (List ℕ)). first_apart n xs l) (sym e) ∙ apart_itself n xs)

-- "name the first wrong line and the line that should stand there"
pub first_wrong : (n : ℕ) (xs ys : List (List ℕ)) (k : ℕ) (x y : Side) → first_apart n xs ys ≡ At k x y → FirstWrong n xs ys k x y
unfolding first_apart
first_wrong n [] [] k x y e = clash (cc)
first_wrong n [] (b ∷ ys) k x y e =
    record { right = []; rest_of_first = []; rest_of_second = b ∷ ys; first = refl; second = refl; place = (let h : k ≡ n = cc in omega arith); stands = cc; should_stand = cc; differ = λ h. clash (cc) }
first_wrong n (a ∷ xs) [] k x y e =
    record { right = []; rest_of_first = a ∷ xs; rest_of_second = []; first = refl; second = refl; place = (let h : k ≡ n = cc in omega arith); stands = cc; should_stand = cc; differ = λ h. clash (cc) }
first_wrong n (a ∷ xs) (b ∷ ys) k x y e =
    pick_case (λ (r : Apart). r ≡ At k x y → FirstWrong n (a ∷ xs) (b ∷ ys) k x y) (same_text a b) _ _
    (λ s e. let r = first_wrong (n + 1) xs ys k x y e in
    record {
      right = a ∷ r.right;
      rest_of_first = r.rest_of_first;
      rest_of_second = r.rest_of_second;
      first = ap (λ (l : List (List ℕ)). a ∷ l) r.first;
      second = rw (same_texts a b s) (ap (λ (l : List (List ℕ)). b ∷ l) r.second);
      place = omega (arith, r.place);
      stands = r.stands;
      should_stand = r.should_stand;
      differ = r.differ;
    })
    (λ s e. record { right = []; rest_of_first = a ∷ xs; rest_of_second = b ∷ ys; first = refl; second = refl; place = (let h : k ≡ n = cc in omega arith); stands = cc; should_stand = cc; differ = λ h. other_texts a b s (cc) })
    e

turned_pick : (b : Bool) (r s x y : Apart) → s ≡ exchanged r → y ≡ exchanged x → pick b s y ≡ exchanged (pick b r x)
unfolding pick
turned_pick true r s x y e f = e
turned_pick false r s x y e f = f

-- the other way round the place is the same and the sides are exchanged
pub apart_turned : (n : ℕ) (xs ys : List (List ℕ)) → first_apart n ys xs ≡ exchanged (first_apart n xs ys)
unfolding first_apart
apart_turned n [] [] = refl
apart_turned n [] (y ∷ ys) = refl
apart_turned n (x ∷ xs) [] = refl
apart_turned n (x ∷ xs) (y ∷ ys) = rw (text_turned x y) (turned_pick (same_text x y) _ _ _ _ (apart_turned (n + 1) xs ys) refl)
