-- No side's text is longer than a line's; and a step by what is held of each log.
use Rattle.std.specs.Prelude.{Option, Some, None}
use Prim.Native.Nat.{ℕ, ◌≤◌}
use mathlib.Core.Path.{◌≡◌, refl, sym, ap, ◌∙◌}
use mathlib.Core.Bool.{Bool}
use mathlib.Core.List.{List}
use native.Mathlib.Omega.{arith}
use lib.Dec.{eqb}
use lib.ListN.{length}
use denote.Enum.Bare.{sameb}
use Rattle.std.specs.Option.{option_or, MatchOption, IsSomeAnd}
use Rattle.log_lines.specs.declared.Line.{Line}
use Rattle.log_lines.proofs.Answers.{line_short}
use Rattle.log_parts.specs.Merge.{or_else}
use Rattle.log_parts.specs.Sorts.{rank, number_of}
use Rattle.log_parts.specs.contracts.Sort.{the_type}
use Rattle.log_parts.specs.declared.Difference.{Difference}
use Rattle.log_parts.specs.declared.Sort.TheVariants.{Headers, Frames, Cycles, Refusals, Closings}
use Rattle.log_parts.specs.declared.Sort.{Sort}
use Rattle.log_parts.specs.declared.Turn.{Turn}
use Rattle.log_passes.specs.Taking.{taken_in}
use Rattle.log_passes.specs.Passing.{front_at, side_text, turn_at, sought_in, first_sought, second_sought, turned_by, stepped_by, stepped}
use Rattle.log_passes.specs.declared.passing.Held.{Held}
use Rattle.log_passes.specs.declared.passing.Held.TheVariants.{Sought, Has}
use Rattle.log_passes.specs.declared.passing.Pass.{Pass}
use Rattle.log_passes.specs.declared.passing.Found.{Found}
use Rattle.log_passes.specs.declared.passing.Step.{Step}

pub side_short : (s : Option Line) → length (side_text s) ≤ 75
unfolding side_text
side_short None = omega arith
side_short (Some l) = line_short l

-- the number of the line that is there, by what `map` says of each case
pub front_mapped : (K : Line → ℕ → Type 0) (o : Option Line) (r : Option ℕ) → MatchOption o (r ≡ None) (λ l. IsSomeAnd r (K l)) → ((l : Line) (n : ℕ) → K l n → n ≡ number_of l) → r ≡ front_at o
unfolding front_at
front_mapped K None r h q = h
front_mapped K (Some l) (Some n) h q = ap Some (q l n h)
front_mapped K (Some l) None h q = absurd h

-- sorts are told apart by their ranks
pub same_sort : (s t : Sort) → sameb the_type s t ≡ eqb (rank s) (rank t)
same_sort Headers t = elim t as (λ u. sameb the_type Headers u ≡ eqb 0 (rank u)) [ Headers ↦ refl | Frames ↦ refl | Cycles ↦ refl | Refusals ↦ refl | Closings ↦ refl ]
same_sort Frames t = elim t as (λ u. sameb the_type Frames u ≡ eqb 1 (rank u)) [ Headers ↦ refl | Frames ↦ refl | Cycles ↦ refl | Refusals ↦ refl | Closings ↦ refl ]
same_sort Cycles t = elim t as (λ u. sameb the_type Cycles u ≡ eqb 2 (rank u)) [ Headers ↦ refl | Frames ↦ refl | Cycles ↦ refl | Refusals ↦ refl | Closings ↦ refl ]
same_sort Refusals t = elim t as (λ u. sameb the_type Refusals u ≡ eqb 3 (rank u)) [ Headers ↦ refl | Frames ↦ refl | Cycles ↦ refl | Refusals ↦ refl | Closings ↦ refl ]
same_sort Closings t = elim t as (λ u. sameb the_type Closings u ≡ eqb 4 (rank u)) [ Headers ↦ refl | Frames ↦ refl | Cycles ↦ refl | Refusals ↦ refl | Closings ↦ refl ]

pub first_or : (f g : Option Difference) → option_or f g ≡ or_else f g
first_or None g = refl
first_or (Some d) g = refl

module _ (s : Sort) (p : Pass) (h : List ℕ) (e : Bool) (i : List ℕ) (f : Bool) (r : Step) where
  pub by_first : p.first ≡ Sought → (x : Found) → x ≡ sought_in s h (taken_in h e) → r ≡ first_sought p x → r ≡ stepped s p h e i f
  unfolding stepped stepped_by
  by_first held x k q = q ∙ ap (first_sought p) k ∙ sym (ap (λ (z : Held). stepped_by s p z p.second h e i f) held)

  pub by_second : (x : Option Line) → p.first ≡ Has x → p.second ≡ Sought → (y : Found) → y ≡ sought_in s i (taken_in i f) → r ≡ second_sought p y → r ≡ stepped s p h e i f
  unfolding stepped stepped_by
  by_second x held other y k q =
      q ∙ ap (second_sought p) k ∙ sym (ap (λ (z : Held). stepped_by s p z p.second h e i f) held ∙ ap (λ (z : Held). stepped_by s p (Has x) z h e i f) other)

  pub by_turn : (x y : Option Line) → p.first ≡ Has x → p.second ≡ Has y → (t : Turn) → t ≡ turn_at x y → r ≡ turned_by p.tally x y t → r ≡ stepped s p h e i f
  unfolding stepped stepped_by
  by_turn x y held other t k q =
      q ∙ ap (turned_by p.tally x y) k ∙ sym (ap (λ (z : Held). stepped_by s p z p.second h e i f) held ∙ ap (λ (z : Held). stepped_by s p (Has x) z h e i f) other)
