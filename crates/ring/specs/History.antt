-- A history of the ring is any list of pushes, each a list of patterns, that begins with a making.
use Rattle.std.specs.Prelude.{ℕ, zero, suc, ◌+◌, ◌≤◌, ◌<◌, ◌≡◌, List, [], ◌∷◌, ◌++◌, length, get_or}
use Rattle.answers.specs.Refusals.{if_refused}
use Rattle.ring.specs.declared.Ring.{Ring}
use Rattle.ring.specs.declared.Kept.{Kept}
use Rattle.ring.specs.declared.Kept.TheVariants.{Refused, NotKept, At}
use Rattle.answers.specs.declared.Count.TheVariants.{Is}
use Rattle.ring.specs.Ring.{made, push_refusal, pushed, pushed_buf, gotten, next_abs, dropped_of}

-- A ring with the buffer that is lent to its calls.
pub record Lent : Type 0 where
  pub ring : Ring
  pub buf : List ℕ

abbrev pub capacity : Lent → ℕ
capacity l = length l.buf

-- Makes a ring over a buffer.
abbrev pub begin : List ℕ → Lent
begin buf = record { ring = (made (length buf)).ring; buf = buf }

-- Pushes once, as the contract of `push` says.
abbrev pub push : Lent → List ℕ → Lent
push l xs = record { ring = (pushed l.ring (capacity l) (length xs)).ring; buf = pushed_buf l.ring l.buf xs }

abbrev pub pushes : Lent → List (List ℕ) → Lent
pushes l [] = l
pushes l (xs ∷ more) = pushes (push l xs) more

-- Gives the samples of one push that are accepted: all of them or none.
abbrev pub taken : Lent → List ℕ → List ℕ
taken l xs = if_refused (push_refusal l.ring (capacity l) (length xs)) [] xs

-- Gives the accepted samples of all pushes, one after the other.
abbrev pub accepted : Lent → List (List ℕ) → List ℕ
accepted l [] = []
accepted l (xs ∷ more) = taken l xs ++ accepted (push l xs) more

abbrev pub get : Lent → ℕ → Kept
get l a = gotten l.ring (capacity l) a

-- `get` of index a finds the pattern x in the buffer.
pub record Finds (l : Lent) (a x : ℕ) : Type 0 where
  pub place : ℕ
  pub answer : get l a ≡ At place
  pub inside : place < capacity l
  pub holds : get_or l.buf place 0 ≡ x

abbrev pub missing : Kept → ℕ
missing (Refused number) = 0
missing NotKept = 1
missing (At place) = 0

-- Counts the indices below n that are not kept.
abbrev pub missing_below : Lent → ℕ → ℕ
missing_below l zero = 0
missing_below l (suc n) = missing_below l n + missing (get l n)

-- The ring has `all` as its history: absolute index a is the a-th sample of it.
pub record Remembers (l : Lent) (all : List ℕ) : Type 0 where
  pub next : next_abs l.ring (capacity l) ≡ Is (length all)
  pub kept : (a : ℕ) → a < length all → length all ≤ a + capacity l → Finds l a (get_or all a 0)
  pub too_old : (a : ℕ) → a + capacity l < length all → get l a ≡ NotKept
  pub not_yet : (a : ℕ) → length all ≤ a → get l a ≡ NotKept
  pub dropped : dropped_of l.ring (capacity l) ≡ Is (missing_below l (length all))
