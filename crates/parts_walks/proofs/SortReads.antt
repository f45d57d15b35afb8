-- What the loop of one sort comes to is what a host comes to that holds the bytes which the windows brought.
use Rattle.std.specs.Prelude.{Option}
use Prim.Native.Nat.{ℕ}
use mathlib.Core.Path.{◌≡◌, refl, sym, ap, subst, ◌∙◌}
use mathlib.Core.Bool.{Bool, true}
use mathlib.Core.List.{List, [], ◌++◌, append_assoc}
use lib.ListN.{drop}
use Rattle.pipes.specs.Window.{at_hand}
use Rattle.log_lines.specs.declared.Line.{Line}
use Rattle.log_parts.proofs.Merges.{clash}
use Rattle.log_parts.specs.declared.Sort.{Sort}
use Rattle.log_parts.specs.declared.Tally.{Tally}
use Rattle.log_parts.specs.declared.Turn.{Turn}
use Rattle.log_parts.specs.declared.Turn.TheVariants as turn
use Rattle.log_passes.specs.Taking.{taken_in}
use Rattle.log_passes.specs.Passing.{sought_in, turn_at, step_of, pass_of, first_sought, second_sought, turned_by, stepped_by, stepped}
use Rattle.log_passes.specs.Hosts.{Passes, goes, over}
use Rattle.log_passes.specs.declared.passing.Held.{Held}
use Rattle.log_passes.specs.declared.passing.Held.TheVariants.{Sought, Has}
use Rattle.log_passes.specs.declared.passing.Pass.{Pass}
use Rattle.log_passes.specs.declared.passing.Found.{Found}
use Rattle.log_passes.specs.declared.passing.Found.TheVariants as found
use Rattle.log_passes.specs.declared.passing.Need.{Need}
use Rattle.log_passes.specs.declared.passing.Need.TheVariants.{Goes, WantsFirst, WantsSecond, Over, Strange}
use Rattle.log_passes.specs.declared.passing.Step.{Step}
use Rattle.pipes.specs.Window as windows
use Rattle.parts_walks.specs.Inputs.{BothMoved}
use Rattle.parts_walks.specs.Counted.{count_answered, CountTurned, CountTurns, none, more}
use Rattle.parts_walks.specs.declared.inputs.Inputs.{Inputs}
use Rattle.parts_walks.specs.declared.sorts.Walk.{Walk}
use Rattle.pipes.proofs.Going.{nothing_came, nothing_comes, hand_on}
use Rattle.parts_walks.proofs.Moving.{holds, holds_last}

-- ---- a step that does not go on changes nothing and uses nothing

pub record Idle (p q : Pass) (u v : ℕ) : Type 0 where
  pub pass : q ≡ p
  pub first : u ≡ 0
  pub second : v ≡ 0

abbrev Keeps : Need → Pass → Pass → ℕ → ℕ → Type 0
Keeps Goes p q u v = Unit {0}
Keeps WantsFirst p q u v = Idle p q u v
Keeps WantsSecond p q u v = Idle p q u v
Keeps Over p q u v = Idle p q u v
Keeps Strange p q u v = Idle p q u v

abbrev KeptIn : Pass → Step → Type 0
KeptIn p s = Keeps s.need p s.pass s.first_used s.second_used

kept_first : (p : Pass) (f : Found) → KeptIn p (first_sought p f)
unfolding first_sought
kept_first p (found.Here l n) = record {}
kept_first p (found.Other n) = record {}
kept_first p found.Nothing = record {}
kept_first p found.Wants = record { pass = refl; first = refl; second = refl }
kept_first p found.Strange = record { pass = refl; first = refl; second = refl }

kept_second : (p : Pass) (f : Found) → KeptIn p (second_sought p f)
unfolding second_sought
kept_second p (found.Here l n) = record {}
kept_second p (found.Other n) = record {}
kept_second p found.Nothing = record {}
kept_second p found.Wants = record { pass = refl; first = refl; second = refl }
kept_second p found.Strange = record { pass = refl; first = refl; second = refl }

kept_turn : (p : Pass) (x y : Option Line) (t : Turn) → p.first ≡ Has x → p.second ≡ Has y → KeptIn p (turned_by p.tally x y t)
unfolding turned_by
kept_turn p x y turn.Over e f = record { pass = ap (λ (h : Held). pass_of h (Has y) p.tally) (sym e) ∙ ap (λ (h : Held). pass_of p.first h p.tally) (sym f); first = refl; second = refl }
kept_turn p x y turn.Alike e f = record {}
kept_turn p x y turn.First e f = record {}
kept_turn p x y turn.Second e f = record {}
kept_turn p x y turn.Both e f = record {}

kept_step : (s : Sort) (p : Pass) (x : List ℕ) (e : Bool) (y : List ℕ) (f : Bool) → KeptIn p (stepped s p x e y f)
unfolding stepped stepped_by
kept_step s p x e y f = each p.first p.second refl refl
  where
    each : (m n : Held) → p.first ≡ m → p.second ≡ n → KeptIn p (stepped_by s p m n x e y f)
    each Sought n g h = kept_first p (sought_in s x (taken_in x e))
    each (Has k) Sought g h = kept_second p (sought_in s y (taken_in y f))
    each (Has k) (Has l) g h = kept_turn p k l (turn_at k l) g h

kept : (s : Sort) (i : Inputs) (a b : List ℕ) (p q : Pass) (u v : ℕ) (n : Need) → step_of q u v n ≡ count_answered s p i a b → Keeps n p q u v
kept s i a b p q u v n e = subst (KeptIn p) (sym e) (kept_step s p (at_hand i.first a) (windows.over i.first) (at_hand i.second b) (windows.over i.second))

-- ---- one turn

module _ (s : Sort) (p q : Pass) (i i' : Inputs) (a b a' b' ra rb : List ℕ) (t : Tally) (ea : windows.over i'.first ≡ true → ra ≡ []) (eb : windows.over i'.second ≡ true → rb ≡ [])
    (left : Passes s q (at_hand i'.first a' ++ ra) (at_hand i'.second b' ++ rb) t) where
  moved : (u v : ℕ) (m : BothMoved u v i a b i' a' b') → Passes s q (drop u (at_hand i.first a) ++ (m.first.came ++ ra)) (drop v (at_hand i.second b) ++ (m.second.came ++ rb)) t
  moved u v m =
      subst (λ (l : List ℕ). Passes s q l (drop v (at_hand i.second b) ++ (m.second.came ++ rb)) t) (hand_on u i.first i'.first a a' m.first ra)
      (subst (λ (l : List ℕ). Passes s q (at_hand i'.first a' ++ ra) l t) (hand_on v i.second i'.second b b' m.second rb) left)

  unmoved : (u v : ℕ) (m : BothMoved u v i a b i' a' b') → Idle p q u v → Passes s p (at_hand i.first a ++ (m.first.came ++ ra)) (at_hand i.second b ++ (m.second.came ++ rb)) t
  unmoved u v m k =
      subst (λ (z : Pass). Passes s z (at_hand i.first a ++ (m.first.came ++ ra)) (at_hand i.second b ++ (m.second.came ++ rb)) t) k.pass
      (subst (λ (z : ℕ). Passes s q (drop z (at_hand i.first a) ++ (m.first.came ++ ra)) (at_hand i.second b ++ (m.second.came ++ rb)) t) k.first
      (subst (λ (z : ℕ). Passes s q (drop u (at_hand i.first a) ++ (m.first.came ++ ra)) (drop z (at_hand i.second b) ++ (m.second.came ++ rb)) t) k.second (moved u v m)))

  by_need : (n : Need) (u v : ℕ) (m : BothMoved u v i a b i' a' b') → step_of q u v n ≡ count_answered s p i a b
      → Passes s p (at_hand i.first a ++ (m.first.came ++ ra)) (at_hand i.second b ++ (m.second.came ++ rb)) t
  by_need Goes u v m e =
      goes (at_hand i.first a) (m.first.came ++ ra) (windows.over i.first) (at_hand i.second b) (m.second.came ++ rb) (windows.over i.second) q u v
      (holds u i.first i'.first a a' m.first ra ea) (holds v i.second i'.second b b' m.second rb eb) (sym e) (moved u v m)
  by_need WantsFirst u v m e = unmoved u v m (kept s i a b p q u v WantsFirst e)
  by_need WantsSecond u v m e = unmoved u v m (kept s i a b p q u v WantsSecond e)
  by_need Over u v m e = unmoved u v m (kept s i a b p q u v Over e)
  by_need Strange u v m e = unmoved u v m (kept s i a b p q u v Strange e)

-- ---- turn after turn

pub reads_on : {s : Sort} {w u : Walk} {a b a' b' x y : List ℕ} → CountTurns s w a b x y u a' b' → (ra rb : List ℕ) (t : Tally)
    → (windows.over u.inputs.first ≡ true → ra ≡ []) → (windows.over u.inputs.second ≡ true → rb ≡ [])
    → Passes s u.pass (at_hand u.inputs.first a' ++ ra) (at_hand u.inputs.second b' ++ rb) t
    → Passes s w.pass (at_hand w.inputs.first a ++ (x ++ ra)) (at_hand w.inputs.second b ++ (y ++ rb)) t
reads_on none ra rb t ea eb left = left
reads_on {s} {w} {u} {a} {b} {a'} {b'} (more {v = v} {a₁ = a₁} {b₁ = b₁} {x = x} {y = y} before one) ra rb t ea eb left =
    let m = one.done in
    subst (λ (l : List ℕ). Passes s w.pass (at_hand w.inputs.first a ++ l) (at_hand w.inputs.second b ++ ((y ++ m.second.came) ++ rb)) t) (sym (append_assoc x m.first.came ra))
    (subst (λ (l : List ℕ). Passes s w.pass (at_hand w.inputs.first a ++ (x ++ (m.first.came ++ ra))) (at_hand w.inputs.second b ++ l) t) (sym (append_assoc y m.second.came rb))
    (reads_on before (m.first.came ++ ra) (m.second.came ++ rb) t
    (nothing_comes one.u v.inputs.first u.inputs.first a₁ a' m.first ra ea)
    (nothing_comes one.v v.inputs.second u.inputs.second b₁ b' m.second rb eb)
    (by_need s v.pass u.pass v.inputs u.inputs a₁ b₁ a' b' ra rb t ea eb left u.need one.u one.v m one.said)))

-- ---- the last turn

module _ {s : Sort} {v u : Walk} {a b a' b' : List ℕ} (one : CountTurned s v a b u a' b') where
  last_over : u.need ≡ Over → Passes s v.pass (at_hand v.inputs.first a ++ one.done.first.came) (at_hand v.inputs.second b ++ one.done.second.came) u.pass.tally
  last_over e =
      over (at_hand v.inputs.first a) one.done.first.came (windows.over v.inputs.first) (at_hand v.inputs.second b) one.done.second.came (windows.over v.inputs.second) u.pass one.u one.v
      (holds_last one.u v.inputs.first u.inputs.first a a' one.done.first)
      (holds_last one.v v.inputs.second u.inputs.second b b' one.done.second)
      (sym one.said ∙ ap (step_of u.pass one.u one.v) e)

-- the loop came to the ends of both: of the bytes that came, behind those at hand, a host counts the same and finds the same first difference
pub sort_counts : {s : Sort} {w u : Walk} {a b a' b' x y : List ℕ} → w.need ≡ Goes → CountTurns s w a b x y u a' b' → u.need ≡ Over
    → Passes s w.pass (at_hand w.inputs.first a ++ x) (at_hand w.inputs.second b ++ y) u.pass.tally
sort_counts first none last = clash (cc)
sort_counts {u = u} first (more before one) last = reads_on before one.done.first.came one.done.second.came u.pass.tally (nothing_came _ _ _ _ _ one.done.first) (nothing_came _ _ _ _ _ one.done.second) (last_over one last)
