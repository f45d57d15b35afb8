-- Where a window meets the ring: its parts, and the slots of the places between.
use Prim.Native.Nat.{ℕ, ◌+◌, ◌-◌, ◌%◌, ◌≤◌, ◌<◌, min}
use mathlib.Core.Path.{◌≡◌, sym, ap, ◌∙◌}
use mathlib.Core.List.{List}
use native.Mathlib.Nat.{mod-lt, mod-eq_of_lt, mod-add-mod, add-mod_left, add_assoc}
use native.Mathlib.Omega.{arith}
use lib.ListN.{length, set}
use Rattle.ring.specs.Ring.{stored}
use Rattle.ring_window.specs.Cuts.{Cuts}

-- ---- remainders

-- an index a little later, before the buffer's end
later : (a j m : ℕ) → a % m + j < m → (a + j) % m ≡ a % m + j
later a j m h = sym (mod-add-mod a m j) ∙ mod-eq_of_lt h

-- and behind it
round : (a r j m : ℕ) → a % m + (r + j) ≡ m + j → j < m → (a + (r + j)) % m ≡ j
round a r j m e h = sym (mod-add-mod a m (r + j)) ∙ ap (λ (k : ℕ). k % m) e ∙ add-mod_left m j ∙ mod-eq_of_lt h

pub next_slot : (next i s m : ℕ) → s ≡ (next + i) % m → (s + 1) % m ≡ (next + (i + 1)) % m
next_slot next i s m e =
    ap (λ (k : ℕ). (k + 1) % m) e
    ∙ mod-add-mod (next + i) m 1
    ∙ ap (λ (k : ℕ). k % m) (add_assoc next i 1)

-- one more sample stands in its slot
pub store_step : (next i slot p q : ℕ) (first buf rest all : List ℕ) → p ≡ q → slot ≡ (next + i) % length first → length buf ≡ length first
    → stored (next + i + 1) (set buf ((next + i) % length buf) q) rest ≡ all → stored (next + (i + 1)) (set buf slot p) rest ≡ all
store_step next i slot p q first buf rest all ep es el e =
    ap (λ (k : ℕ). stored k (set buf slot p) rest) (sym (add_assoc next i 1))
    ∙ ap (λ (k : ℕ). stored (next + i + 1) (set buf k p) rest) (es ∙ ap (λ (m : ℕ). (next + i) % m) (sym el))
    ∙ ap (λ (k : ℕ). stored (next + i + 1) (set buf ((next + i) % length buf) k) rest) ep
    ∙ e

-- ---- numbers of the cut

ends_within : (n y end : ℕ) → end ≡ min n y → end ≤ n
ends_within n y end e = omega (arith, e)

whole_none : (n x y head end : ℕ) → head ≡ min n x → end ≡ min n y → x ≤ y → end ≤ head → head + (0 + 0) + (n - end) ≡ n
whole_none n x y head end h e le k = omega (arith, h, e, le, k)

whole_some : (n head end run : ℕ) → end ≤ n → head < end → run ≤ end - head → head + (run + (end - head - run)) + (n - end) ≡ n
whole_some n head end run w s r = omega (arith, w, s, r)

pub from_first : (n x at head place : ℕ) → head ≡ min n (x - at) → head ≤ place → place < n → x ≤ at + place
from_first n x at head place h l p = omega (arith, h, l, p)

pub before_last : (n y at end place : ℕ) → end ≡ min n (y - at) → place < end → at + place < y
before_last n y at end place e p = omega (arith, e, p)

kept_few : (accepted capacity at back head end : ℕ) → back + (accepted - capacity) ≤ at + head → at + end ≤ back + accepted → end - head ≤ capacity
kept_few accepted capacity at back head end b e = omega (arith, b, e)

not_past : (n y at head end : ℕ) → end ≡ min n (y - at) → head < end → at + end ≤ y
not_past n y at head end e s = omega (arith, e, s)

oldest_first : (accepted capacity at back : ℕ) → back + (accepted - capacity) - at ≤ back + accepted - at
oldest_first accepted capacity at back = omega arith

run_inside : (count capacity slot run : ℕ) → run ≡ min count (capacity - slot) → slot < capacity → slot + run ≤ capacity
run_inside count capacity slot run e h = omega (arith, e, h)

wraps_at_end : (count capacity slot run j : ℕ) → run ≡ min count (capacity - slot) → slot < capacity → j < count - run → slot + (run + j) ≡ capacity + j
wraps_at_end count capacity slot run j e h k = omega (arith, e, h, k)

at_most : (a b m : ℕ) → m ≡ min a b → m ≤ a
at_most a b m e = omega (arith, e)

less_few : (a b j m : ℕ) → j < a - b → a ≤ m → j < m
less_few a b j m h l = omega (arith, h, l)

still_few : (a b m : ℕ) → a ≤ m → a - b ≤ m
still_few a b m l = omega (arith, l)

moved : (at back head j index : ℕ) → back ≤ at + head → index ≡ at + head - back → at + (head + j) - back ≡ index + j
moved at back head j index b e = omega (arith, b, e)

-- ---- the cut

-- no place is kept
pub cut_none : (accepted capacity at back n head end : ℕ) → head ≡ min n (back + (accepted - capacity) - at) → end ≡ min n (back + accepted - at) → end ≤ head
    → Cuts accepted capacity at back n (record { head = head; slot = 0; run = 0; wrapped = 0; tail = n - end })
cut_none accepted capacity at back n head end heads ends h =
    record {
      head = heads;
      tail = ap (λ (k : ℕ). n - k) ends;
      whole = whole_none n _ _ head end heads ends (oldest_first accepted capacity at back) h;
      inside = omega arith;
      around = omega arith;
      runs = λ j k. absurd (omega (arith, k));
      wraps = λ j k. absurd (omega (arith, k));
    }

module _ (accepted capacity at back n head end : ℕ) (heads : head ≡ min n (back + (accepted - capacity) - at)) (ends : end ≡ min n (back + accepted - at))
    (some : head < end) (few : 0 < capacity) (index slot run : ℕ) (indexes : index ≡ at + head - back) (slots : slot ≡ index % capacity)
    (ran : run ≡ min (end - head) (capacity - slot)) where
  inside_window : head < n
  inside_window = let w = ends_within n _ end ends in omega (arith, w, some)

  begins : back + (accepted - capacity) ≤ at + head
  begins = from_first n _ at head head heads (omega arith) inside_window

  begun : back ≤ at + head
  begun = omega (arith, begins)

  slot_inside : slot < capacity
  slot_inside = let m = mod-lt index few in omega (arith, slots, m)

  count_few : end - head ≤ capacity
  count_few = kept_few accepted capacity at back head end begins (not_past n _ at head end ends some)

  run_few : run ≤ end - head
  run_few = at_most (end - head) (capacity - slot) run ran

  runs_on : (j : ℕ) → j < run → (at + (head + j) - back) % capacity ≡ slot + j
  runs_on j k =
      let i = run_inside (end - head) capacity slot run ran slot_inside in
      let h : index % capacity + j < capacity = omega (arith, slots, i, k) in
      ap (λ (m : ℕ). m % capacity) (moved at back head j index begun indexes) ∙ later index j capacity h ∙ ap (λ (m : ℕ). m + j) (sym slots)

  wraps_round : (j : ℕ) → j < end - head - run → (at + (head + (run + j)) - back) % capacity ≡ j
  wraps_round j k =
      let w = wraps_at_end (end - head) capacity slot run j ran slot_inside k in
      let h : index % capacity + (run + j) ≡ capacity + j = ap (λ (m : ℕ). m + (run + j)) (sym slots) ∙ w in
      let small = less_few (end - head) run j capacity k count_few in
      ap (λ (m : ℕ). m % capacity) (moved at back head (run + j) index begun indexes) ∙ round index run j capacity h small

  pub cut_some : Cuts accepted capacity at back n (record { head = head; slot = slot; run = run; wrapped = end - head - run; tail = n - end })
  cut_some =
      record {
        head = heads;
        tail = ap (λ (k : ℕ). n - k) ends;
        whole = whole_some n head end run (ends_within n _ end ends) some run_few;
        inside = run_inside (end - head) capacity slot run ran slot_inside;
        around = still_few (end - head) run capacity count_few;
        runs = runs_on;
        wraps = wraps_round;
      }
