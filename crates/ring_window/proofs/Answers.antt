-- What the ring's report of its next index says of a call, and a push of floats.
use Prim.Native.Nat.{ℕ, ◌+◌, ◌≤◌, ◌<◌}
use mathlib.Core.Path.{◌≡◌, refl, sym, ap, ◌∙◌}
use mathlib.Core.List.{List, map}
use mathlib.Core.Bool.{Bool, true, false, true≢false, false≢true}
use lib.Dec.{leb, eqb}
use lib.ListN.{length, length-map}
use lib.Ieee.{Float, binary32, of_bits, to_bits}
use lib.Ieee.Bits.{of_bits-to_bits}
use borrow.Author.Tests.{eqb-true, eqb-false, eq-eqb, ne_eqb, le-leb, lt-leb}
use Rattle.answers.specs.Pick.{pick, pick_true, pick_false}
use Rattle.answers.specs.Numbers.{limit}
use Rattle.answers.specs.Answers.{counted}
use Rattle.answers.specs.declared.Change.TheVariants as change
use Rattle.answers.specs.declared.Count.{Count}
use Rattle.answers.specs.declared.Count.TheVariants as count
use Rattle.ring.specs.declared.Ring.{Ring}
use Rattle.ring.specs.declared.Changed.{Changed}
use Rattle.ring.specs.Ring.{ring_refusal, push_refusal, changed, pushed_buf, stored, next_abs}
use Rattle.ring_window.specs.declared.Reading.TheVariants as reading
use Rattle.ring_window.specs.Statements.{FloatComesBack, NanStoredQuiet}
use Rattle.ring_window.specs.Window.{missing_of, at_head, at_tail, count_below, patterns, reading_of, window_read, floats_read, floats_pushed, floats_pushed_buf}

-- ---- a count, taken apart

abbrev refusal_in : Count → ℕ
refusal_in (count.Refused n) = n
refusal_in (count.Is n) = 0

abbrev value_in : Count → ℕ
value_in (count.Refused n) = 0
value_in (count.Is n) = n

abbrev is_value : Count → Bool
is_value (count.Refused n) = false
is_value (count.Is n) = true

module _ (r : Ring) (capacity : ℕ) (c : Count) (is : c ≡ next_abs r capacity) where
  pub is_refused_lem : (n : ℕ) → c ≡ count.Refused n → (ring_refusal r capacity ≡ 0 → ⊥) × (ring_refusal r capacity ≡ n)
  unfolding counted
  is_refused_lem n e = go (eqb (ring_refusal r capacity) 0) refl
    where
      go : (t : Bool) → eqb (ring_refusal r capacity) 0 ≡ t → (ring_refusal r capacity ≡ 0 → ⊥) × (ring_refusal r capacity ≡ n)
      go true q = absurd (true≢false (sym (ap is_value (pick_true _ _ _ q)) ∙ ap is_value (sym is ∙ e)))
      go false q = (eqb-false (ring_refusal r capacity) 0 q, sym (ap refusal_in (pick_false _ _ _ q)) ∙ ap refusal_in (sym is ∙ e))

  pub is_accepted_lem : (n : ℕ) → c ≡ count.Is n → (ring_refusal r capacity ≡ 0) × (n ≡ r.accepted)
  unfolding counted
  is_accepted_lem n e = go (eqb (ring_refusal r capacity) 0) refl
    where
      go : (t : Bool) → eqb (ring_refusal r capacity) 0 ≡ t → (ring_refusal r capacity ≡ 0) × (n ≡ r.accepted)
      go true q = (eqb-true (ring_refusal r capacity) 0 q, sym (ap value_in (sym is ∙ e)) ∙ ap value_in (pick_true _ _ _ q))
      go false q = absurd (false≢true (sym (ap is_value (pick_false _ _ _ q)) ∙ ap is_value (sym is ∙ e)))

-- ---- a window, refused and not

module _ (r : Ring) (capacity at back n : ℕ) where
  pub reading_refused : (k : ℕ) → (ring_refusal r capacity ≡ 0 → ⊥) × (ring_refusal r capacity ≡ k) → reading.Refused k ≡ reading_of r capacity at back n
  unfolding reading_of
  reading_refused k h = ap reading.Refused (sym h.1) ∙ sym (pick_false _ _ _ (ne_eqb (ring_refusal r capacity) 0 h.0))

  pub reading_done : (head tail : ℕ) → ring_refusal r capacity ≡ 0 → head ≡ count_below (at_head r capacity at back) n → tail ≡ count_below (at_tail r at back) n
      → reading.Read (missing_of head tail) ≡ reading_of r capacity at back n
  unfolding reading_of
  reading_done head tail z h t =
      ap (λ (k : ℕ). reading.Read (missing_of k tail)) h
      ∙ ap (λ (k : ℕ). reading.Read (missing_of (count_below (at_head r capacity at back) n) k)) t
      ∙ sym (pick_true _ _ _ (eq-eqb (ring_refusal r capacity) 0 z))

module _ (r : Ring) (buf : List ℕ) (at back : ℕ) where
  pub window_refused : (window : List ℕ) → (ring_refusal r (length buf) ≡ 0 → ⊥) → window ≡ window_read r buf at back window
  unfolding window_read
  window_refused window h = sym (pick_false _ _ _ (ne_eqb (ring_refusal r (length buf)) 0 h))

  pub window_done : (window after : List ℕ) → ring_refusal r (length buf) ≡ 0 → after ≡ patterns r buf at back (length window) → after ≡ window_read r buf at back window
  unfolding window_read
  window_done window after z e = e ∙ sym (pick_true _ _ _ (eq-eqb (ring_refusal r (length buf)) 0 z))

  pub floats_refused : (window : List Float) → (ring_refusal r (length buf) ≡ 0 → ⊥) → window ≡ floats_read r buf at back window
  unfolding floats_read
  floats_refused window h = sym (pick_false _ _ _ (ne_eqb (ring_refusal r (length buf)) 0 h))

  pub floats_done : (window after : List Float) → ring_refusal r (length buf) ≡ 0 → after ≡ map (of_bits binary32) (patterns r buf at back (length window)) → after ≡ floats_read r buf at back window
  unfolding floats_read
  floats_done window after z e = e ∙ sym (pick_true _ _ _ (eq-eqb (ring_refusal r (length buf)) 0 z))

-- ---- a push of floats, refused and not

module _ (r : Ring) (buf : List ℕ) (xs : List Float) where
  same_length : length (map (to_bits binary32) xs) ≡ length xs
  same_length = length-map xs (to_bits binary32)

  -- with number k
  pub push_refused : (k : ℕ) → (push_refusal r (length buf) (length xs) ≡ 0 → ⊥) → push_refusal r (length buf) (length xs) ≡ k
      → (◌≡◌ {A = Changed} (record { ring = r; answer = change.Refused k }) (floats_pushed r (length buf) xs)) × (buf ≡ floats_pushed_buf r buf xs)
  unfolding changed floats_pushed_buf pushed_buf
  push_refused k h e = (
    ap (λ (m : ℕ). record { ring = r; answer = change.Refused m }) (sym e) ∙ sym (pick_false _ _ _ (ne_eqb (push_refusal r (length buf) (length xs)) 0 h)),
    sym (pick_false _ _ _ (ap (λ (m : ℕ). eqb (push_refusal r (length buf) m) 0) same_length ∙ ne_eqb (push_refusal r (length buf) (length xs)) 0 h)),
  )

  pub push_done : (k : ℕ) (after : List ℕ) → push_refusal r (length buf) (length xs) ≡ 0 → k ≡ r.accepted → after ≡ stored k buf (map (to_bits binary32) xs)
      → (◌≡◌ {A = Changed} (record { ring = record { accepted = k + length xs }; answer = change.Done }) (floats_pushed r (length buf) xs)) × (after ≡ floats_pushed_buf r buf xs)
  unfolding changed floats_pushed_buf pushed_buf
  push_done k after z e s = (
    ap (λ (m : ℕ). record { ring = record { accepted = m + length xs }; answer = change.Done }) e ∙ sym (pick_true _ _ _ (eq-eqb (push_refusal r (length buf) (length xs)) 0 z)),
    s ∙ ap (λ (m : ℕ). stored m buf (map (to_bits binary32) xs)) e ∙ sym (pick_true _ _ _ (ap (λ (m : ℕ). eqb (push_refusal r (length buf) m) 0) same_length ∙ eq-eqb (push_refusal r (length buf) (length xs)) 0 z)),
  )

  -- the ring's own refusal comes first
  pub push_first : (k : ℕ) → (ring_refusal r (length buf) ≡ 0 → ⊥) × (ring_refusal r (length buf) ≡ k) → (push_refusal r (length buf) (length xs) ≡ 0 → ⊥) × (push_refusal r (length buf) (length xs) ≡ k)
  unfolding push_refusal
  push_first k h =
      let e = pick_false (eqb (ring_refusal r (length buf)) 0) (pick (leb (r.accepted + length xs) limit) 0 5) (ring_refusal r (length buf)) (ne_eqb (ring_refusal r (length buf)) 0 h.0) in
      ((λ z. h.0 (sym e ∙ z)), e ∙ h.1)

  pub push_passes : ring_refusal r (length buf) ≡ 0 → r.accepted + length xs ≤ limit → push_refusal r (length buf) (length xs) ≡ 0
  unfolding push_refusal
  push_passes z h = pick_true _ _ _ (eq-eqb (ring_refusal r (length buf)) 0 z) ∙ pick_true _ _ _ (le-leb _ _ h)

  pub push_too_many : ring_refusal r (length buf) ≡ 0 → limit < r.accepted + length xs → push_refusal r (length buf) (length xs) ≡ 5
  unfolding push_refusal
  push_too_many z h = pick_true _ _ _ (eq-eqb (ring_refusal r (length buf)) 0 z) ∙ pick_false _ _ _ (lt-leb _ _ h)

-- ---- floats and their patterns

pub float_comes_back : FloatComesBack
float_comes_back x h = of_bits-to_bits binary32 x h

pub nan_stored_quiet : NanStoredQuiet
unfolding to_bits
nan_stored_quiet = refl
