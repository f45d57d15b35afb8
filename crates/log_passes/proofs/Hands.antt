-- The line that is taken is the next of the text, whatever comes behind the bytes at hand.
use Prim.Native.Nat.{ℕ, ◌≤◌, ◌<◌}
use mathlib.Core.Path.{◌≡◌, refl, sym, ap, subst, ◌∙◌}
use mathlib.Core.Bool.{Bool, true, false}
use mathlib.Core.List.{List, [], ◌∷◌, ◌++◌}
use native.Mathlib.Numerals.{add-one}
use native.Mathlib.Omega.{arith}
use lib.Dec.{ltb, eqb}
use lib.ListN.{length, take, drop, drop_of_length-le, length-append}
use lib.Seq.{length-take-le, take_all, take-append-le, take-take}
use borrow.Author.Tests.{ltb-true, ltb-false}
use Rattle.answers.specs.Pick.{pick, pick_case}
use Rattle.log_text.specs.Text.{lines_of, split_into}
use Rattle.log_text.specs.Cut.{longest, first_newline, cut_at, cut_of, Behind, Tells}
use Rattle.log_text.specs.declared.Piece.{Piece}
use Rattle.log_text.specs.declared.Piece.TheVariants.{Line, Last, Long, Wants, Over}
use Rattle.log_text.proofs.Newlines.{cut_tells_lem, newline_within, long_starts}
use Rattle.log_passes.specs.Taking.{Inside, taken_of, taken_in}
use Rattle.log_passes.specs.declared.taking.Taken.{Taken}
use Rattle.log_passes.specs.declared.taking.Taken.TheVariants as taken

-- ---- what the tests of `cut` have shown

abbrev Shown : List ℕ → Bool → Piece → Type 0
Shown hand ended (Line n) = (n ≤ longest) × (n < length hand)
Shown hand ended (Last n) = (n ≤ longest) × (ended ≡ true)
Shown hand ended Long = longest < first_newline hand
Shown hand ended Wants = Unit {0}
Shown hand ended Over = Unit {0}

shown : (hand : List ℕ) (ended : Bool) → Shown hand ended (cut_of hand ended)
unfolding cut_of cut_at
shown hand ended =
    let n = first_newline hand in
    let P : Piece → Type 0 = Shown hand ended in
    pick_case P (ltb longest n) _ _
    (λ h. ltb-true longest n h)
    (λ h. pick_case P (ltb n (length hand)) _ _
    (λ g. (ltb-false longest n h, ltb-true n (length hand) g))
    (λ g. pick_case P ended _ _
    (λ i. pick_case P (eqb n 0) _ _ (λ z. record {}) (λ z. (ltb-false longest n h, i)))
    (λ i. record {})))

-- ---- what a taken line says

-- a line that is too long, and its first bytes
pub record Longer (hand : List ℕ) (ls : List (List ℕ)) : Type 0 where
  pub line : List ℕ
  pub others : List (List ℕ)
  pub parts : ls ≡ line ∷ others
  pub long : longest < length line
  pub starts : take 76 line ≡ take 76 hand

pub record Next (hand more : List ℕ) (n used : ℕ) : Type 0 where
  pub lines : lines_of (hand ++ more) ≡ take n hand ∷ lines_of (drop used hand ++ more)
  pub short : n ≤ longest

abbrev pub Took : List ℕ → List ℕ → Taken → Type 0
Took hand more (taken.Text n used) = Next hand more n used
Took hand more taken.Nothing = lines_of (hand ++ more) ≡ []
Took hand more taken.Wants = Unit {0}
Took hand more taken.Long = Longer hand (lines_of (hand ++ more))

last_line : (hand more : List ℕ) (ended : Bool) (n : ℕ) → Behind ended more → ended ≡ true → (lines_of (hand ++ more) ≡ hand ∷ []) × (n ≡ length hand)
    → lines_of (hand ++ more) ≡ take n hand ∷ lines_of (drop n hand ++ more)
unfolding lines_of split_into pick
last_line hand more ended n b e t =
    let none : more ≡ [] = subst (λ (f : Bool). Behind f more) e b in
    let all : take n hand ≡ hand = take_all n hand (omega (arith, t.1)) in
    let rest : drop n hand ≡ [] = drop_of_length-le hand {i = n} (omega (arith, t.1)) in
    t.0 ∙ ap (λ (l : List ℕ). l ∷ lines_of []) (sym all) ∙ ap (λ (l : List ℕ). take n hand ∷ lines_of l) (sym (ap (λ (d : List ℕ). d ++ more) rest ∙ none))

longer : (hand more : List ℕ) → longest < first_newline hand → Longer hand (lines_of (hand ++ more))
longer hand more h =
    let n = first_newline hand in
    let g = long_starts hand more h in
    let size : length (take n hand) ≡ n = length-take-le n hand (newline_within hand) in
    record {
      line = take n hand ++ g.0;
      others = g.1;
      parts = g.2;
      long = omega (arith, h, size, length-append (take n hand) g.0);
      starts = take-append-le 76 (take n hand) g.0 (omega (arith, h, size)) ∙ take-take 76 n hand (omega (arith, h));
    }

pub took : (hand more : List ℕ) (ended : Bool) → Behind ended more → Took hand more (taken_in hand ended)
unfolding taken_in taken_of
took hand more ended b = each (cut_of hand ended) (shown hand ended) (cut_tells_lem hand more ended b)
  where
    each : (p : Piece) → Shown hand ended p → Tells hand ended more p → Took hand more (taken_of p)
    each (Line n) s t = record { lines = rw (add-one n) t; short = s.0 }
    each (Last n) s t = record { lines = last_line hand more ended n b s.1 t; short = s.0 }
    each Long s t = longer hand more s
    each Wants s t = record {}
    each Over s t = t

-- ---- a taken line lies among the bytes at hand

pub inside : (hand : List ℕ) (ended : Bool) → Inside hand (taken_in hand ended)
unfolding taken_in taken_of
inside hand ended = each (cut_of hand ended) (shown hand ended) (cut_tells_lem hand [] ended (at_end ended))
  where
    at_end : (e : Bool) → Behind e []
    at_end true = refl
    at_end false = record {}

    each : (p : Piece) → Shown hand ended p → Tells hand ended [] p → Inside hand (taken_of p)
    each (Line n) s t = omega (arith, s.1)
    each (Last n) s t = omega (arith, t.1)
    each Long s t = record {}
    each Wants s t = record {}
    each Over s t = record {}

-- a line's end, its newline with it, lies there too
pub room_behind_lem : (hand : List ℕ) (ended : Bool) (n : ℕ) → cut_of hand ended ≡ Line n → n < length hand
room_behind_lem hand ended n e = (subst (Shown hand ended) e (shown hand ended)).1

-- what `line_of` answers, from what `cut` does
pub taken_is : (hand : List ℕ) (ended : Bool) (p : Piece) (r : Taken) → p ≡ cut_of hand ended → r ≡ taken_of p → (r ≡ taken_in hand ended) × Inside hand r
unfolding taken_in
taken_is hand ended p r e f =
    let is : r ≡ taken_in hand ended = f ∙ ap taken_of e in
    (is, subst (Inside hand) (sym is) (inside hand ended))
