-- The first newline, step by step; and what each answer of `cut` says of the lines.
use Prim.Native.Nat.{ℕ, suc, ◌+◌, ◌≤◌, ◌<◌}
use mathlib.Core.Path.{◌≡◌, refl, sym, ap, subst, ◌∙◌}
use mathlib.Core.Bool.{Bool, true, false}
use mathlib.Core.List.{List, [], ◌∷◌, ◌++◌, append_assoc}
use native.Mathlib.Omega.{arith}
use lib.Dec.{ltb, eqb}
use lib.ListN.{length, take, drop, length-append, take-append-drop, drop_of_length-le}
use lib.Seq.{length-take-le}
use borrow.Author.Tests.{eqb-true, eqb-false, ltb-true, ltb-false}
use Rattle.answers.specs.Pick.{pick, pick_true, pick_false, pick_case}
use Rattle.std.specs.Prelude.{Some, None, cond}
use Rattle.std.specs.List.{position, position_or_len}
use Rattle.std.specs.Option.{unwrap_or}
use Rattle.std.proofs.lemmas.List.Recursion.{is_position_or_len}
use Rattle.log_text.specs.Text.{newline, empty, plain, split_into, lines_of}
use Rattle.log_text.specs.Cut.{longest, first_newline, cut_at, cut_of, TooLong, Behind, Tells, Walk, line, last, over}
use Rattle.log_text.specs.declared.Piece.{Piece}
use Rattle.log_text.specs.declared.Piece.TheVariants.{Line, Last, Wants, Over}
use Rattle.log_text.proofs.Text.{plain_on, append_nothing}

-- ---- before the first newline, and behind it

pub newline_within : (bytes : List ℕ) → first_newline bytes ≤ length bytes
unfolding first_newline
newline_within [] = omega arith
newline_within (c ∷ t) = pick_case (λ (n : ℕ). n ≤ suc (length t)) (eqb c newline) _ _ (λ e. omega arith) (λ e. omega (arith, newline_within t))

-- std's search for it
search_step : (b : Bool) (n : ℕ) → pick b 0 (suc n) ≡ cond b 0 (1 + n)
unfolding pick
search_step true n = refl
search_step false n = omega arith

newline_place : (bytes : List ℕ) → first_newline bytes ≡ position_or_len (λ b. eqb b newline) bytes
unfolding first_newline
newline_place bytes = is_position_or_len first_newline (λ b. eqb b newline) refl (λ c t. search_step (eqb c newline) (first_newline t)) bytes

place_found : (n len : ℕ) → n ≤ len → (b : Bool) → ltb n len ≡ b → unwrap_or (cond b (Some n) None) len ≡ n
place_found n len h true e = refl
place_found n len h false e = omega (arith, h, ltb-false n len e)

pub newline_found : (bytes : List ℕ) → unwrap_or (position (λ b. eqb b newline) bytes) (length bytes) ≡ first_newline bytes
newline_found bytes = rw (← newline_place bytes) (place_found (first_newline bytes) (length bytes) (newline_within bytes) _ refl)

plain_before : (bytes : List ℕ) → plain (take (first_newline bytes) bytes) ≡ true
unfolding first_newline
plain_before [] = refl
plain_before (c ∷ t) = pick_case (λ (n : ℕ). plain (take n (c ∷ t)) ≡ true) (eqb c newline) _ _ (λ e. refl) (λ e. pick_false _ _ _ e ∙ plain_before t)

newline_at : (bytes : List ℕ) → first_newline bytes < length bytes → drop (first_newline bytes) bytes ≡ newline ∷ drop (suc (first_newline bytes)) bytes
unfolding first_newline
newline_at [] h = absurd (omega (arith, h))
newline_at (c ∷ t) h =
    pick_case (λ (n : ℕ). n < suc (length t) → drop n (c ∷ t) ≡ newline ∷ drop (suc n) (c ∷ t)) (eqb c newline) _ _
    (λ e h. rw (eqb-true c newline e))
    (λ e h. newline_at t (omega (arith, h)))
    h

-- ---- a line so far that is not empty goes on to be the first

grows : (l t : List ℕ) → 0 < length l → (line : List ℕ) × (others : List (List ℕ)) × (split_into l t ≡ line ∷ others) × (length l ≤ length line)
unfolding split_into pick
grows [] [] h = absurd (omega (arith, h))
grows (c ∷ l) [] h = (c ∷ l, [], refl, omega arith)
grows l (c ∷ t) h =
    let P : List (List ℕ) → Type 0 = λ ls. (line : List ℕ) × (others : List (List ℕ)) × (ls ≡ line ∷ others) × (length l ≤ length line) in
    let longer : length (l ++ c ∷ []) ≡ length l + 1 = length-append l (c ∷ []) in
    pick_case P (eqb c newline) _ _
    (λ e. (l, split_into [] t, refl, omega arith))
    (λ e. let g = grows (l ++ c ∷ []) t (omega (arith, longer)) in (g.0, g.1, g.2, omega (arith, longer, g.3)))

-- ---- what `cut` tells of the lines, whatever comes behind the bytes at hand

module _ (bytes more : List ℕ) where
  -- the text, cut at the place of the first newline
  from_place : lines_of (bytes ++ more) ≡ split_into (take (first_newline bytes) bytes) (drop (first_newline bytes) bytes ++ more)
  unfolding lines_of
  from_place =
      let n = first_newline bytes in
      ap (λ (b : List ℕ). split_into [] (b ++ more)) (sym (take-append-drop n bytes))
      ∙ ap (split_into []) (append_assoc (take n bytes) (drop n bytes) more)
      ∙ plain_on [] (take n bytes) (drop n bytes ++ more) (plain_before bytes)

  line_told : first_newline bytes < length bytes → lines_of (bytes ++ more) ≡ take (first_newline bytes) bytes ∷ lines_of (drop (suc (first_newline bytes)) bytes ++ more)
  unfolding lines_of split_into pick
  line_told h = from_place ∙ ap (λ (b : List ℕ). split_into (take (first_newline bytes) bytes) (b ++ more)) (newline_at bytes h)

  long_told : longest < first_newline bytes → TooLong (lines_of (bytes ++ more))
  long_told h =
      let n = first_newline bytes in
      let size : length (take n bytes) ≡ n = length-take-le n bytes (newline_within bytes) in
      let g = grows (take n bytes) (drop n bytes ++ more) (omega (arith, h, size)) in
      record { line = g.0; others = g.1; parts = from_place ∙ g.2; long = omega (arith, h, size, g.3) }

-- no newline among the bytes, and none comes behind
last_told : (bytes : List ℕ) → length bytes ≤ first_newline bytes → lines_of (bytes ++ []) ≡ pick (empty bytes) [] (bytes ∷ [])
unfolding lines_of split_into
last_told bytes h =
    let n = first_newline bytes in
    let rest : drop n bytes ≡ [] = drop_of_length-le bytes h in
    let all : take n bytes ≡ bytes = sym (append_nothing (take n bytes)) ∙ ap (λ (b : List ℕ). take n bytes ++ b) (sym rest) ∙ take-append-drop n bytes in
    from_place bytes [] ∙ ap (λ (b : List ℕ). split_into (take n bytes) (b ++ [])) rest ∙ ap (λ (l : List ℕ). split_into l []) all

empty_none : (bytes : List ℕ) → length bytes ≡ 0 → empty bytes ≡ true
empty_none [] e = refl
empty_none (c ∷ t) e = absurd (omega (arith, e))

empty_some : (bytes : List ℕ) → (length bytes ≡ 0 → ⊥) → empty bytes ≡ false
empty_some [] e = absurd (e refl)
empty_some (c ∷ t) e = refl

at_end : (bytes more : List ℕ) (ended : Bool) → Behind ended more → length bytes ≤ first_newline bytes → first_newline bytes ≤ longest
    → Tells bytes ended more (pick ended (pick (eqb (first_newline bytes) 0) Over (Last (first_newline bytes))) Wants)
unfolding pick
at_end bytes more false b h s = (refl, omega (arith, h, s))
at_end bytes more true b h s =
    let whole : lines_of (bytes ++ more) ≡ pick (empty bytes) [] (bytes ∷ []) = ap (λ (m : List ℕ). lines_of (bytes ++ m)) b ∙ last_told bytes h in
    let size : first_newline bytes ≡ length bytes = omega (arith, h, newline_within bytes) in
    pick_case (Tells bytes true more) (eqb (first_newline bytes) 0) _ _
    (λ e. whole ∙ pick_true _ _ _ (empty_none bytes (omega (arith, size, eqb-true (first_newline bytes) 0 e))))
    (λ e. (whole ∙ pick_false _ _ _ (empty_some bytes (λ z. eqb-false (first_newline bytes) 0 e (omega (arith, size, z)))), size))

-- the line that is told is the next of the text; wanted are more bytes only where fewer than 76 are at hand and more may come
pub cut_tells_lem : (bytes more : List ℕ) (ended : Bool) → Behind ended more → Tells bytes ended more (cut_of bytes ended)
unfolding cut_of cut_at
cut_tells_lem bytes more ended b =
    pick_case (Tells bytes ended more) (ltb longest (first_newline bytes)) _ _
    (λ e. long_told bytes more (ltb-true longest (first_newline bytes) e))
    (λ e. pick_case (Tells bytes ended more) (ltb (first_newline bytes) (length bytes)) _ _
    (λ f. line_told bytes more (ltb-true (first_newline bytes) (length bytes) f))
    (λ f. at_end bytes more ended b (ltb-false (first_newline bytes) (length bytes) f) (ltb-false longest (first_newline bytes) e)))

-- whatever a host holds at each step, the lines that it is told are the lines of the text
pub walked : (text : List ℕ) (ls : List (List ℕ)) → Walk text ls → lines_of text ≡ ls
walked text ls w = each w
  where
    told : (hand more : List ℕ) (ended : Bool) (p : Piece) → Behind ended more → cut_of hand ended ≡ p → Tells hand ended more p
    told hand more ended p b e = subst (Tells hand ended more) e (cut_tells_lem hand more ended b)

    alone : (t : List ℕ) → lines_of t ≡ lines_of (t ++ [])
    alone t = ap lines_of (sym (append_nothing t))

    each : {t : List ℕ} {ks : List (List ℕ)} → Walk t ks → lines_of t ≡ ks
    each (line hand more ended n e b c w) = ap lines_of e ∙ told hand more ended (Line n) b c ∙ ap (λ (k : List (List ℕ)). take n hand ∷ k) (each w)
    each {t} (last n c) = alone t ∙ (told t [] true (Last n) refl c).0
    each {t} (over c) = alone t ∙ told t [] true Over refl c

-- ---- a line that is too long begins with the bytes at hand

starts : (l t : List ℕ) → 0 < length l → (rest : List ℕ) × (others : List (List ℕ)) × (split_into l t ≡ (l ++ rest) ∷ others)
unfolding split_into pick
starts [] [] h = absurd (omega (arith, h))
starts (c ∷ l) [] h = ([], [], ap (λ (k : List ℕ). (c ∷ k) ∷ []) (sym (append_nothing l)))
starts l (c ∷ t) h =
    let P : List (List ℕ) → Type 0 = λ ls. (rest : List ℕ) × (others : List (List ℕ)) × (ls ≡ (l ++ rest) ∷ others) in
    pick_case P (eqb c newline) _ _
    (λ e. ([], split_into [] t, ap (λ (k : List ℕ). k ∷ split_into [] t) (sym (append_nothing l))))
    (λ e. let g = starts (l ++ c ∷ []) t (omega (arith, length-append l (c ∷ []))) in
    (c ∷ g.0, g.1, g.2 ∙ ap (λ (k : List ℕ). k ∷ g.1) (append_assoc l (c ∷ []) g.0)))

pub long_starts : (bytes more : List ℕ) → longest < first_newline bytes
    → (rest : List ℕ) × (others : List (List ℕ)) × (lines_of (bytes ++ more) ≡ (take (first_newline bytes) bytes ++ rest) ∷ others)
long_starts bytes more h =
    let n = first_newline bytes in
    let size : length (take n bytes) ≡ n = length-take-le n bytes (newline_within bytes) in
    let g = starts (take n bytes) (drop n bytes ++ more) (omega (arith, h, size)) in
    (g.0, g.1, from_place bytes more ∙ g.2)
