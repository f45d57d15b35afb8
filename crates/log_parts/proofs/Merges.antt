-- Over rising numbers the one pass gives the count and the first difference that are defined by number; and what follows of two lists by going through both so.
use Rattle.std.specs.Prelude.{Option, Some, None}
use Prim.Native.Nat.{ℕ, zero, suc, ◌+◌, ◌≤◌}
use mathlib.Core.Path.{◌≡◌, refl, sym, ap, subst, ◌∙◌}
use mathlib.Core.Logic.{◌↔◌}
use mathlib.Core.Bool.{Bool, true, false, not}
use mathlib.Core.List.{List, [], ◌∷◌, map}
use native.Mathlib.Omega.{arith}
use lib.Dec.{ltb}
use lib.ListN.{length}
use borrow.Author.Tests.{ltb-true, ltb-false}
use Rattle.answers.specs.Pick.{pick, pick_case}
use Rattle.log_lines.specs.Lines.{text_of}
use Rattle.log_lines.specs.declared.Line.{Line}
use Rattle.log_lines.proofs.Theorems.{one_line}
use Rattle.log_text.proofs.Text.{same_texts, text_itself, text_turned}
use Rattle.log_parts.specs.declared.Difference.{Difference}
use Rattle.log_parts.specs.Sorts.{number_of, same_line, Rising, AllRanged, differ}
use Rattle.log_parts.specs.Numbers.{line_at, same_side, differs_at, count, differing, Found, NoNumber, Number, least_of, least_differing, first_at, first_by_number}
use Rattle.log_parts.specs.Merge.{or_else, noted, merge_in, unmarked, merge}
use Rattle.log_parts.specs.declared.Tally.{Tally}
use Rattle.log_parts.specs.Parts.{turned_first}
use Rattle.log_parts.proofs.Numbers.{first_counts, second_counts, same_counts, other_counts}
use Rattle.log_parts.proofs.Least.{least_differing_lem, least_along, first_is, first_told, second_told, same_told, other_told}

-- two constructors are never equal: `cc` proves this of them
pub clash : {A : Type 0} → ◌≡◌ {A = ℕ} 0 1 → A
clash z = absurd (omega (arith, z))

-- ---- the one pass

-- what a tally comes to with both lists still ahead
abbrev told : Tally → List Line → List Line → Tally
told t a b = record { count = t.count + differing a b; first = or_else t.first (first_by_number a b) }

tally : (c d : ℕ) (f g : Option Difference) → c ≡ d → f ≡ g → ◌≡◌ {A = Tally} (record { count = c; first = f }) (record { count = d; first = g })
tally c d f g p q = rw (p, q)

-- a difference that is told stays
told_stays : (f : Option Difference) (x y : Option Line) (g : Option Difference) → or_else (or_else f (differ x y)) g ≡ or_else f (differ x y)
told_stays None x y g = refl
told_stays (Some d) x y g = refl

-- a difference that is noted, where the lists behind it count one less
noted_told : (t : Tally) (x y : Option Line) (a b c d : List Line) → differing c d ≡ differing a b + 1 → first_by_number c d ≡ differ x y → told (noted t x y) a b ≡ told t c d
noted_told t x y a b c d p q = tally _ _ _ _ (omega (arith, p)) (told_stays t.first x y (first_by_number a b) ∙ ap (or_else t.first) (sym q))

module _ (t : Tally) (x y : Line) (a b : List Line) (same : number_of x ≡ number_of y) (ra : Rising (number_of x + 1) a) (rb : Rising (number_of x + 1) b) where
  pair_told : told (pick (same_line x y) t (noted t (Some x) (Some y))) a b ≡ told t (x ∷ a) (y ∷ b)
  pair_told =
      pick_case (λ (u : Tally). told u a b ≡ told t (x ∷ a) (y ∷ b)) (same_line x y) _ _
      (λ s. tally _ _ _ _ (omega (arith, same_counts x y a b same ra rb s)) (ap (or_else t.first) (sym (same_told x y a b same ra rb s))))
      (λ s. noted_told t (Some x) (Some y) a b (x ∷ a) (y ∷ b) (other_counts x y a b same ra rb s) (other_told x y a b same ra rb s))

nothing_left : (t : Tally) → told t [] [] ≡ t
unfolding differing count first_by_number least_differing least_of
nothing_left t = tally _ _ _ _ (omega arith) (each t.first)
  where
    each : (f : Option Difference) → or_else f None ≡ f
    each None = refl
    each (Some d) = refl

pub merged : (f : ℕ) (t : Tally) (k : ℕ) (a b : List Line) → Rising k a → Rising k b → length a + length b ≤ f → merge_in f t a b ≡ told t a b
unfolding merge_in
merged zero t k [] [] ra rb h = sym (nothing_left t)
merged zero t k [] (y ∷ b) ra rb h = absurd (omega (arith, h))
merged zero t k (x ∷ a) b ra rb h = absurd (omega (arith, h))
merged (suc f) t k [] [] ra rb h = sym (nothing_left t)
merged (suc f) t k [] (y ∷ b) ra rb h =
    merged f (noted t None (Some y)) (number_of y + 1) [] b (record {}) rb.1 (omega (arith, h))
    ∙ noted_told t None (Some y) [] b [] (y ∷ b) (second_counts y [] b (record {}) rb.1) (second_told y [] b (record {}) rb.1)
merged (suc f) t k (x ∷ a) [] ra rb h =
    merged f (noted t (Some x) None) (number_of x + 1) a [] ra.1 (record {}) (omega (arith, h))
    ∙ noted_told t (Some x) None a [] (x ∷ a) [] (first_counts x a [] ra.1 (record {})) (first_told x a [] ra.1 (record {}))
merged (suc f) t k (x ∷ a) (y ∷ b) ra rb h =
    let P : Tally → Type 0 = λ u. u ≡ told t (x ∷ a) (y ∷ b) in
    pick_case P (ltb (number_of x) (number_of y)) _ _
    (λ e. let above : Rising (number_of x + 1) (y ∷ b) = (omega (arith, ltb-true (number_of x) (number_of y) e), rb.1) in
    merged f (noted t (Some x) None) (number_of x + 1) a (y ∷ b) ra.1 above (omega (arith, h))
    ∙ noted_told t (Some x) None a (y ∷ b) (x ∷ a) (y ∷ b) (first_counts x a (y ∷ b) ra.1 above) (first_told x a (y ∷ b) ra.1 above))
    (λ e. pick_case P (ltb (number_of y) (number_of x)) _ _
    (λ g. let above : Rising (number_of y + 1) (x ∷ a) = (omega (arith, ltb-true (number_of y) (number_of x) g), ra.1) in
    merged f (noted t None (Some y)) (number_of y + 1) (x ∷ a) b above rb.1 (omega (arith, h))
    ∙ noted_told t None (Some y) (x ∷ a) b (x ∷ a) (y ∷ b) (second_counts y (x ∷ a) b above rb.1) (second_told y (x ∷ a) b above rb.1))
    (λ g. let same : number_of x ≡ number_of y = omega (arith, ltb-false (number_of x) (number_of y) e, ltb-false (number_of y) (number_of x) g) in
    let above : Rising (number_of x + 1) b = subst (λ (n : ℕ). Rising (n + 1) b) (sym same) rb.1 in
    merged f _ (number_of x + 1) a b ra.1 above (omega (arith, h)) ∙ pair_told t x y a b same ra.1 above))

-- "the number of differing frames and cycles by number", and the first of them, in one pass
pub merges : (k : ℕ) (a b : List Line) → Rising k a → Rising k b → merge a b ≡ record { count = differing a b; first = first_by_number a b }
unfolding merge
merges k a b ra rb = merged (length a + length b) unmarked k a b ra rb (omega arith) ∙ tally _ _ _ _ (omega arith) refl

-- ---- what holds of two lists, by taking off the line of the least number, or two lines of one number

pub record Steps (P : List Line → List Line → Type 0) : Type 0 where
  pub none : P [] []
  pub left : (x : Line) (a b : List Line) → Rising (number_of x + 1) a → Rising (number_of x + 1) b → P a b → P (x ∷ a) b
  pub right : (y : Line) (a b : List Line) → Rising (number_of y + 1) a → Rising (number_of y + 1) b → P a b → P a (y ∷ b)
  pub pair : (x y : Line) (a b : List Line) → number_of x ≡ number_of y → Rising (number_of x + 1) a → Rising (number_of x + 1) b → P a b → P (x ∷ a) (y ∷ b)

stepped : (P : List Line → List Line → Type 0) → Steps P → (f k : ℕ) (a b : List Line) → Rising k a → Rising k b → length a + length b ≤ f → P a b
stepped P s zero k [] [] ra rb h = s.none
stepped P s zero k [] (y ∷ b) ra rb h = absurd (omega (arith, h))
stepped P s zero k (x ∷ a) b ra rb h = absurd (omega (arith, h))
stepped P s (suc f) k [] [] ra rb h = s.none
stepped P s (suc f) k [] (y ∷ b) ra rb h = s.right y [] b (record {}) rb.1 (stepped P s f (number_of y + 1) [] b (record {}) rb.1 (omega (arith, h)))
stepped P s (suc f) k (x ∷ a) [] ra rb h = s.left x a [] ra.1 (record {}) (stepped P s f (number_of x + 1) a [] ra.1 (record {}) (omega (arith, h)))
stepped P s (suc f) k (x ∷ a) (y ∷ b) ra rb h =
    let Q : Bool → Type 0 = λ c. P (x ∷ a) (y ∷ b) in
    pick_case Q (ltb (number_of x) (number_of y)) true false
    (λ e. let above : Rising (number_of x + 1) (y ∷ b) = (omega (arith, ltb-true (number_of x) (number_of y) e), rb.1) in
    s.left x a (y ∷ b) ra.1 above (stepped P s f (number_of x + 1) a (y ∷ b) ra.1 above (omega (arith, h))))
    (λ e. pick_case Q (ltb (number_of y) (number_of x)) true false
    (λ g. let above : Rising (number_of y + 1) (x ∷ a) = (omega (arith, ltb-true (number_of y) (number_of x) g), ra.1) in
    s.right y (x ∷ a) b above rb.1 (stepped P s f (number_of y + 1) (x ∷ a) b above rb.1 (omega (arith, h))))
    (λ g. let same : number_of x ≡ number_of y = omega (arith, ltb-false (number_of x) (number_of y) e, ltb-false (number_of y) (number_of x) g) in
    let above : Rising (number_of x + 1) b = subst (λ (n : ℕ). Rising (n + 1) b) (sym same) rb.1 in
    s.pair x y a b same ra.1 above (stepped P s f (number_of x + 1) a b ra.1 above (omega (arith, h)))))

pub by_steps : (P : List Line → List Line → Type 0) → Steps P → (k : ℕ) (a b : List Line) → Rising k a → Rising k b → P a b
by_steps P s k a b ra rb = stepped P s (length a + length b) k a b ra rb (omega arith)

-- ---- lines by their texts

pub same_texts_of : (x y : Line) → same_line x y ≡ true → text_of x ≡ text_of y
unfolding same_line
same_texts_of x y s = same_texts (text_of x) (text_of y) s

pub line_itself : (x : Line) → same_line x x ≡ true
unfolding same_line
line_itself x = text_itself (text_of x)

pub line_turned : (x y : Line) → same_line y x ≡ same_line x y
unfolding same_line
line_turned x y = text_turned (text_of x) (text_of y)

-- lines that a log can hold are told apart by their texts
pub one_list : (a b : List Line) → AllRanged a → AllRanged b → map text_of a ≡ map text_of b → a ≡ b
one_list [] [] p q e = refl
one_list [] (y ∷ b) p q e = clash (cc)
one_list (x ∷ a) [] p q e = clash (cc)
one_list (x ∷ a) (y ∷ b) p q e =
    let head : text_of x ≡ text_of y = cc in
    let rest : map text_of a ≡ map text_of b = cc in
    rw (one_line x y p.0 q.0 head, one_list a b p.1 q.1 rest)

-- ---- a count of none

-- none counted, or none told: the texts are the same
abbrev Agree : List Line → List Line → Type 0
Agree a b = ((differing a b ≡ 0) → map text_of a ≡ map text_of b) × ((first_by_number a b ≡ None) ↔ (differing a b ≡ 0))

-- where one is counted and told
parts : (a b : List Line) (n : ℕ) (x y : Option Line) → differing a b ≡ n + 1 → first_by_number a b ≡ differ x y → Agree a b
parts a b n x y p q = ((λ e. absurd (omega (arith, p, e))), ((λ e. clash (cc)), λ e. absurd (omega (arith, p, e))))

agree : Steps Agree
unfolding differing count first_by_number least_differing least_of
agree = record {
  none = ((λ e. refl), ((λ e. zero_count), λ e. zero_first));
  left = λ x a b ra rb r. parts (x ∷ a) b _ _ _ (first_counts x a b ra rb) (first_told x a b ra rb);
  right = λ y a b ra rb r. parts a (y ∷ b) _ _ _ (second_counts y a b ra rb) (second_told y a b ra rb);
  pair = λ x y a b same ra rb r. pair_agrees x y a b same ra rb r (same_line x y) refl;
}
  where
    zero_count : differing [] [] ≡ 0
    zero_count = refl

    zero_first : first_by_number [] [] ≡ None
    zero_first = refl

    pair_agrees : (x y : Line) (a b : List Line) → number_of x ≡ number_of y → Rising (number_of x + 1) a → Rising (number_of x + 1) b → Agree a b → (c : Bool) → same_line x y ≡ c → Agree (x ∷ a) (y ∷ b)
    pair_agrees x y a b same ra rb r true s =
        let n = same_counts x y a b same ra rb s in
        let f = same_told x y a b same ra rb s in
        ((λ e. rw (same_texts_of x y s, r.0 (sym n ∙ e))), ((λ e. n ∙ r.1.0 (sym f ∙ e)), λ e. f ∙ r.1.1 (sym n ∙ e)))
    pair_agrees x y a b same ra rb r false s = parts (x ∷ a) (y ∷ b) _ _ _ (other_counts x y a b same ra rb s) (other_told x y a b same ra rb s)

itself_none : (k : ℕ) (a : List Line) → Rising k a → differing a a ≡ 0
unfolding differing count
itself_none k [] r = refl
itself_none k (x ∷ a) r = same_counts x x a a refl r.1 r.1 (line_itself x) ∙ itself_none (number_of x + 1) a r.1

-- "differing .. by number": none is counted exactly if the lists are equal, and none is named exactly then
pub none_counted : (k : ℕ) (a b : List Line) → Rising k a → Rising k b → AllRanged a → AllRanged b → (differing a b ≡ 0) ↔ (a ≡ b)
none_counted k a b ra rb p q = (
  (λ e. one_list a b p q ((by_steps Agree agree k a b ra rb).0 e)),
  λ e. subst (λ (l : List Line). differing a l ≡ 0) e (itself_none k a ra),
)

pub none_named : (k : ℕ) (a b : List Line) → Rising k a → Rising k b → (first_by_number a b ≡ None) ↔ (differing a b ≡ 0)
none_named k a b ra rb = (by_steps Agree agree k a b ra rb).1

-- ---- the other way round

pub count_turned : (k : ℕ) (a b : List Line) → Rising k a → Rising k b → differing b a ≡ differing a b
count_turned k a b ra rb = by_steps (λ c d. differing d c ≡ differing c d) turns k a b ra rb
  where
    turns : Steps (λ c d. differing d c ≡ differing c d)
    turns = record {
      none = refl;
      left = λ x a b ra rb r. omega (arith, first_counts x a b ra rb, second_counts x b a rb ra, r);
      right = λ y a b ra rb r. omega (arith, second_counts y a b ra rb, first_counts y b a rb ra, r);
      pair = λ x y a b same ra rb r. each x y a b same ra rb r (same_line x y) refl;
    }
      where
        each : (x y : Line) (a b : List Line) → number_of x ≡ number_of y → Rising (number_of x + 1) a → Rising (number_of x + 1) b → differing b a ≡ differing a b → (c : Bool) → same_line x y ≡ c
            → differing (y ∷ b) (x ∷ a) ≡ differing (x ∷ a) (y ∷ b)
        each x y a b same ra rb r true s =
            let up : (l : List Line) → Rising (number_of x + 1) l → Rising (number_of y + 1) l = λ l. subst (λ (n : ℕ). Rising (n + 1) l) same in
            omega (arith, same_counts x y a b same ra rb s, same_counts y x b a (sym same) (up b rb) (up a ra) (line_turned x y ∙ s), r)
        each x y a b same ra rb r false s =
            let up : (l : List Line) → Rising (number_of x + 1) l → Rising (number_of y + 1) l = λ l. subst (λ (n : ℕ). Rising (n + 1) l) same in
            omega (arith, other_counts x y a b same ra rb s, other_counts y x b a (sym same) (up b rb) (up a ra) (line_turned x y ∙ s), r)

side_turned : (x y : Option Line) → same_side y x ≡ same_side x y
side_turned None None = refl
side_turned None (Some y) = refl
side_turned (Some x) None = refl
side_turned (Some x) (Some y) = line_turned x y

pub first_turned : (a b : List Line) → first_by_number b a ≡ turned_first (first_by_number a b)
unfolding first_by_number differs_at
first_turned a b =
    first_is b a (least_differing a b) (least_along (differs_at a b) (differs_at b a) (least_differing a b) (λ n. ap not (sym (side_turned (line_at n a) (line_at n b)))) (least_differing_lem a b))
    ∙ each (least_differing a b)
  where
    each : (r : Found) → first_at b a r ≡ turned_first (first_at a b r)
    each NoNumber = refl
    each (Number n) = refl
