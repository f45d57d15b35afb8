-- A line behind what is held, and its newline.
use Rattle.std.specs.Prelude.{Option, Some, None}
use Prim.Native.Nat.{ℕ, ◌+◌, ◌-◌, ◌≤◌, ◌<◌}
use native.Mathlib.Omega.{arith}
use native.Mathlib.Numerals.{add-one}
use mathlib.Core.Path.{◌≡◌, refl, sym, ap, ◌∙◌}
use mathlib.Core.Bool.{true, false}
use mathlib.Core.List.{List, [], ◌∷◌, ◌++◌, append_assoc}
use lib.ListN.{length, take, drop, set, length-drop}
use lib.Seq.{take-suc-set, take_all, drop-length, length-take-le, take-append-add, take-append_seam}
use borrow.Author.Tests.{leb-true, leb-false}
use borrow.Rule.Slice.PartMut.{mid_of, put_mid, Post-is}
use Rattle.answers.specs.Pick.{either, pick_true, pick_case}
use Rattle.log_lines.specs.Lines.{text_of}
use Rattle.log_lines.specs.Calls.{fits_into, written, written_out}
use Rattle.log_lines.specs.declared.Line.{Line}
use Rattle.log_lines.proofs.Answers.{line_short}
use Rattle.log_sink.specs.Sink.{complaint, Joined}
use Rattle.log_sink.specs.declared.Text.{Text}

append_nothing : (l : List ℕ) → l ++ [] ≡ l
append_nothing [] = refl
append_nothing (c ∷ l) = rw (append_nothing l)

pub newline_behind : (room : List ℕ) (k : ℕ) → k < length room → take (k + 1) (set room k 10) ≡ take k room ++ 10 ∷ []
newline_behind room k h = rw add-one (take-suc-set room k 10 h)

-- the part of a room from a place to its end
pub part_whole : (h : ℕ) (room : List ℕ) → mid_of h (length room - h) room ≡ drop h room
part_whole h room = take_all (length room - h) (drop h room) (rw (length-drop h room) (omega arith))

pub put_whole : (h : ℕ) (room ys : List ℕ) → h ≤ length room → put_mid h (length room - h) room ys ≡ take h room ++ ys
put_whole h room ys inside = ap (λ (z : List ℕ). take h room ++ (ys ++ z)) (Post-is h (length room) room inside ∙ drop-length room) ∙ ap (λ (z : List ℕ). take h room ++ z) (append_nothing ys)

clash : {A : Type 0} → ◌≡◌ {A = ℕ} 0 1 → A
clash z = absurd (omega (arith, z))

module _ (l : Line) (out : List ℕ) where
  pub fits_bytes : (n : ℕ) → Some n ≡ written l out → (fits_into l out ≡ true) × (n ≡ length (text_of l))
  unfolding written
  fits_bytes n e =
      pick_case (λ (w : Option ℕ). Some n ≡ w → (fits_into l out ≡ true) × (n ≡ length (text_of l))) (fits_into l out) _ _
      (λ t e. (t, cc))
      (λ t e. clash (cc))
      e

  pub fits_none : None ≡ written l out → fits_into l out ≡ false
  unfolding written
  fits_none e =
      pick_case (λ (w : Option ℕ). None ≡ w → fits_into l out ≡ false) (fits_into l out) _ _
      (λ t e. clash (cc))
      (λ t e. t)
      e

-- 76 bytes behind what is held are room for any line
pub no_room_less : (l : Line) (h : ℕ) (room : List ℕ) → fits_into l (drop h room) ≡ false → h + 76 ≤ length room → ⊥
no_room_less l h room f r = omega (arith, line_short l, length-drop h room, leb-false (length (text_of l)) (length (drop h room)) f)

-- the room after the line was written, up to its end
pub line_behind : (l : Line) (h : ℕ) (room : List ℕ) → h ≤ length room → fits_into l (drop h room) ≡ true
    → take (h + length (text_of l)) (take h room ++ written_out l (drop h room)) ≡ take h room ++ text_of l
unfolding written_out
line_behind l h room inside f =
    let size : length (take h room) ≡ h = length-take-le h room inside in
    ap (λ (k : ℕ). take (k + length (text_of l)) (take h room ++ written_out l (drop h room))) (sym size)
    ∙ take-append-add (take h room) (written_out l (drop h room)) (length (text_of l))
    ∙ ap (λ (z : List ℕ). take h room ++ take (length (text_of l)) z) (pick_true _ _ _ f)
    ∙ ap (λ (z : List ℕ). take h room ++ z) (take-append_seam (text_of l) _)

-- as long as it was
pub written_long : (l : Line) (h : ℕ) (room : List ℕ) → h ≤ length room → fits_into l (drop h room) ≡ true → h + length (text_of l) ≤ length room
written_long l h room inside f = omega (arith, leb-true (length (text_of l)) (length (drop h room)) f, length-drop h room)

pub joins_line : (l : Line) (t t' : Text) (room room1 room' : List ℕ) (n : ℕ) → t.held ≤ length room → Some n ≡ written l (drop t.held room) → room1 ≡ take t.held room ++ written_out l (drop t.held room)
    → length room1 ≡ length room
    → t'.held ≤ length room' → (t'.good ≡ true → take t'.held room' ≡ take (t.held + n) room1 ++ 10 ∷ []) → (t'.good ≡ true → t'.amiss ≡ either t.amiss (complaint l))
    → (t.held + n < length room1 → t'.good ≡ t.good) → Joined t room l t' room'
joins_line l t t' room room1 room' n inside e is size inside' joins amiss finds =
    let fits = fits_bytes l (drop t.held room) n e in
    let line : take (t.held + n) room1 ≡ take t.held room ++ text_of l = rw (is, fits.1) (line_behind l t.held room inside fits.0) in
    record {
      inside = inside';
      joins = λ g. joins g ∙ ap (λ (z : List ℕ). z ++ 10 ∷ []) line ∙ append_assoc (take t.held room) (text_of l) (10 ∷ []);
      complains = amiss;
      finds = λ r. finds (omega (arith, r, size, fits.1, line_short l));
    }

pub joins_lost : (l : Line) (t t' : Text) (room room' : List ℕ) → None ≡ written l (drop t.held room) → t'.held ≤ length room' → (t'.good ≡ true → ⊥) → Joined t room l t' room'
joins_lost l t t' room room' e inside bad =
    record {
      inside = inside;
      joins = λ g. absurd (bad g);
      complains = λ g. absurd (bad g);
      finds = λ r. absurd (no_room_less l t.held room (fits_none l (drop t.held room) e) r);
    }
