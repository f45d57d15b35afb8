-- The laws of the ring. `history`: after any list of pushes from a making on, `get` finds every kept sample as it was pushed, and nothing else.
use Prim.Native.Nat.{ℕ, zero, suc, ◌+◌, ◌-◌, ◌%◌, ◌≤◌, ◌<◌, min}
use mathlib.Core.Path.{◌≡◌, refl, ap, ◌∙◌}
use mathlib.Core.List.{List, [], ◌∷◌, ◌++◌, append_assoc, append-nil}
use mathlib.Core.Bool.{Bool, true, false}
use native.Mathlib.Omega.{arith}
use native.Mathlib.Nat.{mod-lt}
use lib.ListN.{length, length-append}
use lib.Dec.{leb, eqb}
use borrow.Author.Tests.{lt-ltb, le-ltb, le-leb, lt-leb, leb-true, leb-false, eqb-true, ne_eqb}
use Rattle.answers.specs.Numbers.{limit}
use Rattle.answers.specs.Pick.{pick, pick_true, pick_false, pick_all}
use Rattle.answers.specs.Refusals.{none}
use Rattle.answers.specs.declared.Change.TheVariants.{Refused, Done}
use Rattle.answers.specs.declared.Count.TheVariants.{Is}
use Rattle.answers.specs.Answers.{counted}
use Rattle.ring.specs.declared.Ring.{Ring}
use Rattle.ring.specs.declared.Changed.{Changed}
use Rattle.ring.specs.declared.Kept.TheVariants.{NotKept, At}
use Rattle.ring.specs.Ring.{changed, empty, made, ring_refusal, push_refusal, stored, pushed_buf, oldest, is_kept, gotten, next_abs, dropped_of, cleared}
use Rattle.ring.specs.History.{Lent, capacity, begin, push, pushes, taken, accepted, missing, missing_below, Remembers}
use Rattle.ring.proofs.Accepted.{ring_accepted, push_accepted}
use Rattle.ring.proofs.Slots.{Stand, stored_length, stand_all}

-- what every push keeps
record Whole (l : Lent) (all : List ℕ) : Type 0 where
  some : 0 < capacity l
  next : l.ring.accepted ≡ length all
  within : length all ≤ limit
  stand : Stand l.buf all

-- a push of xs from l, where t says whether it is accepted and n is the refusal
abbrev push_if : Bool → ℕ → Lent → List ℕ → Lent
push_if t n l xs =
    record {
      ring = (pick {A = Changed} t (record { ring = record { accepted = l.ring.accepted + length xs }; answer = Done }) (record { ring = l.ring; answer = Refused n })).ring;
      buf = pick t (stored l.ring.accepted l.buf xs) l.buf;
    }

whole_if : (t : Bool) (n : ℕ) (l : Lent) (all xs : List ℕ) → (t ≡ true → l.ring.accepted + length xs ≤ limit) → Whole l all → Whole (push_if t n l xs) (all ++ pick t xs [])
unfolding pick
whole_if false n l all xs fits w = rw append-nil w
whole_if true n l all xs fits w =
    let sum : length (all ++ xs) ≡ length all + length xs = length-append all xs in
    let m : length (stored l.ring.accepted l.buf xs) ≡ capacity l = stored_length _ l.buf xs in
    let most = fits refl in
    record {
      some = omega arith;
      next = omega arith;
      within = omega arith;
      stand = stand_all _ l.buf all xs w.next w.some w.stand;
    }

push_whole : (l : Lent) (all xs : List ℕ) → Whole l all → Whole (push l xs) (all ++ taken l xs)
unfolding changed pushed_buf
push_whole l all xs w =
    let n = push_refusal l.ring (capacity l) (length xs) in
    whole_if (eqb n none) n l all xs (λ e. (push_accepted l.ring (capacity l) (length xs) (eqb-true n none e)).1) w

pushes_whole : (l : Lent) (all : List ℕ) (ps : List (List ℕ)) → Whole l all → Whole (pushes l ps) (all ++ accepted l ps)
pushes_whole l all [] w = rw append-nil w
pushes_whole l all (xs ∷ ps) w = rw append_assoc at (pushes_whole (push l xs) (all ++ taken l xs) ps (push_whole l all xs w))

sound : (r : Ring) (capacity : ℕ) → 0 < capacity → r.accepted ≤ limit → ring_refusal r capacity ≡ none
unfolding ring_refusal
sound r capacity some most = simp (pick_true, lt-ltb 0 capacity some, le-leb r.accepted limit most)

begins_empty : (capacity : ℕ) → 0 < capacity → made capacity ≡ record { ring = empty; answer = Done }
unfolding changed pick
begins_empty capacity some = rw (sound empty capacity some (omega arith))

begin_whole : (buf : List ℕ) → 0 < length buf → Whole (begin buf) []
unfolding Stand
begin_whole buf some = rw (begins_empty (length buf) some) (record { some = some; next = refl; within = omega arith; stand = λ a old young. absurd (omega arith) })

module _ (l : Lent) (all : List ℕ) (w : Whole l all) where
  accepts : ring_refusal l.ring (capacity l) ≡ none
  accepts = sound l.ring (capacity l) w.some (omega (arith, w.next, w.within))

  counts : next_abs l.ring (capacity l) ≡ Is (length all)
  unfolding counted pick
  counts = rw (accepts, w.next)

  asked : (a : ℕ) → gotten l.ring (capacity l) a ≡ pick (is_kept l.ring (capacity l) a) (At (a % capacity l)) NotKept
  unfolding gotten pick
  asked a = rw accepts

  found : (a : ℕ) → a < length all → length all ≤ a + capacity l → gotten l.ring (capacity l) a ≡ At (a % capacity l)
  found a old young =
      let h : l.ring.accepted - capacity l ≤ a = omega (arith, w.next) in
      let k : a < l.ring.accepted = omega (arith, w.next) in
      asked a ∙ simp (pick_true, le-leb _ _ h, lt-ltb _ _ k)

  forgot : (a : ℕ) → a + capacity l < length all → gotten l.ring (capacity l) a ≡ NotKept
  forgot a old =
      let h : a < l.ring.accepted - capacity l = omega (arith, w.next) in
      asked a ∙ simp (pick_false, lt-leb _ _ h)

  awaits : (a : ℕ) → length all ≤ a → gotten l.ring (capacity l) a ≡ NotKept
  awaits a young =
      let h : l.ring.accepted ≤ a = omega (arith, w.next) in
      let out = pick_all (λ (b : Bool). b ≡ false) (leb (oldest l.ring (capacity l)) a) false false refl refl in
      asked a ∙ simp (pick_false, le-ltb _ _ h, out)

  one_more : (n : ℕ) (t : Bool) → leb (length all) (n + capacity l) ≡ t → n < length all → min n (length all - capacity l) + missing (gotten l.ring (capacity l) n) ≡ min (suc n) (length all - capacity l)
  one_more n true e h =
      let young = leb-true (length all) (n + capacity l) e in
      rw (found n h young) (omega arith)
  one_more n false e h =
      let old = leb-false (length all) (n + capacity l) e in
      rw (forgot n old) (omega arith)

  -- of the first n indices those below the oldest are lost
  losses : (n : ℕ) → n ≤ length all → missing_below l n ≡ min n (length all - capacity l)
  losses zero h = omega arith
  losses (suc n) h = rw (losses n (omega arith)) (one_more n _ refl h)

  drops : dropped_of l.ring (capacity l) ≡ Is (missing_below l (length all))
  unfolding counted pick
  drops =
      let h : l.ring.accepted - capacity l ≡ missing_below l (length all) = omega (arith, w.next, losses (length all) (omega arith)) in
      rw accepts (ap Is h)

  remembers : Remembers l all
  unfolding Stand
  remembers =
      record {
        next = counts;
        kept = λ a old young. record { place = a % capacity l; answer = found a old young; inside = mod-lt a w.some; holds = w.stand a old young };
        too_old = forgot;
        not_yet = awaits;
        dropped = drops;
      }

-- after any list of pushes from a making on, the ring remembers the samples of those that were accepted
pub history : (buf : List ℕ) (ps : List (List ℕ)) → 0 < length buf → Remembers (pushes (begin buf) ps) (accepted (begin buf) ps)
history buf ps some = remembers _ _ (pushes_whole (begin buf) [] ps (begin_whole buf some))

-- a push that is refused leaves the ring and the buffer
pub refused_push : (l : Lent) (xs : List ℕ) → (push_refusal l.ring (capacity l) (length xs) ≡ none → ⊥) → push l xs ≡ l
unfolding changed pushed_buf
refused_push l xs r = simp (pick_false, ne_eqb _ none r)

-- a ring that is cleared is one just made, so its history begins anew
pub clear_begins : (r : Ring) (capacity : ℕ) → ring_refusal r capacity ≡ none → cleared r capacity ≡ made capacity
unfolding changed pick
clear_begins r capacity e = rw (e, begins_empty capacity (ring_accepted r capacity e).0)
