-- What `past` and `refill` of a window do to the bytes at hand.
use Prim.Native.Nat.{ℕ}
use native.Mathlib.Omega.{arith}
use mathlib.Core.Path.{◌≡◌, refl, sym, ap, subst, ◌∙◌}
use mathlib.Core.Bool.{Bool, true, false}
use mathlib.Core.List.{List, [], ◌++◌, append_assoc}
use lib.ListN.{drop, length-append}
use Rattle.log_text.proofs.Text.{append_nothing}
use Rattle.pipes.specs.Window.{Within, at_hand, over, Moved}
use Rattle.pipes.specs.declared.window.Window.{Window}
use Rattle.pipes.proofs.Going.{nothing_came, nothing_comes}
use Rattle.log_text.specs.Cut.{Behind}
use Rattle.log_passes.specs.Hosts.{Holds}
use Rattle.parts_walks.specs.Inputs.{BothWithin, BothMoved, Passed}
use Rattle.parts_walks.specs.declared.inputs.Inputs.{Inputs}

-- ---- what a host holds

pub behind_is : (b : Bool) (more : List ℕ) → (b ≡ true → more ≡ []) → Behind b more
behind_is true more h = h refl
behind_is false more h = record {}

module _ (n : ℕ) (w w' : Window) (room room' : List ℕ) (m : Moved n w room w' room') where
  pub holds : (rest : List ℕ) → (over w' ≡ true → rest ≡ []) → Holds (at_hand w room ++ (m.came ++ rest)) (at_hand w room) (m.came ++ rest) (over w)
  holds rest behind = record { joins = refl; behind = behind_is (over w) (m.came ++ rest) (nothing_comes n w w' room room' m rest behind) }

  pub holds_last : Holds (at_hand w room ++ m.came) (at_hand w room) m.came (over w)
  holds_last = record { joins = refl; behind = behind_is (over w) m.came (nothing_came n w w' room room' m) }

-- ---- both inputs

pub still : (w : Window) (room : List ℕ) → Within w → Moved 0 w room w room
still w room i = record { within = i; came = []; joins = sym (append_nothing (at_hand w room)); counts = omega arith }

-- a window that is passed, and then read on
then : (n : ℕ) (w v u : Window) (room room' : List ℕ) → Moved n w room v room → Moved 0 v room u room' → Moved n w room u room'
then n w v u room room' m k =
    record {
      within = k.within;
      came = m.came ++ k.came;
      joins = k.joins ∙ ap (λ (l : List ℕ). l ++ k.came) m.joins ∙ append_assoc (drop n (at_hand w room)) m.came k.came;
      counts = omega (arith, length-append m.came k.came, m.counts, k.counts);
    }

pub then_both : (u v : ℕ) (i j k : Inputs) (a b a' b' : List ℕ) → BothMoved u v i a b j a b → BothMoved 0 0 j a b k a' b' → BothMoved u v i a b k a' b'
then_both u v i j k a b a' b' m n =
    record { first = then u i.first j.first k.first a a' m.first n.first; second = then v i.second j.second k.second b b' m.second n.second }

pub both_within : (u v : ℕ) (i r : Inputs) → Passed u v i r → BothWithin r
both_within u v i r p = record { first = (p [] []).first.within; second = (p [] []).second.within }

pub moved_by : (u v m n : ℕ) (i : Inputs) (a b : List ℕ) (i' : Inputs) (a' b' : List ℕ) → m ≡ u → n ≡ v → BothMoved m n i a b i' a' b' → BothMoved u v i a b i' a' b'
moved_by u v m n i a b i' a' b' e f h = subst (λ (k : ℕ). BothMoved k v i a b i' a' b') e (subst (λ (k : ℕ). BothMoved m k i a b i' a' b') f h)
