-- One entry more, and what is known where the peak rule is not refused.
use Rattle.std.proofs.Common.{◌≡◌, ℕ, zero, suc, ◌+◌, ◌≤◌, leb, List, length, sym, ◌∙◌, add-one, arith, leb-true}
use lib.Ieee.{Float}
use Rattle.answers.specs.Pick.{pick_all}
use Rattle.answers.proofs.Refusals.{passed_both}
use Rattle.fine.specs.State.{Sound, span_of, first_refusals}
use Rattle.fine.specs.declared.Fine.{Fine}
use Rattle.fine.proofs.Laws.{accepted}
use Rattle.fine_peak.specs.Peak.{tie, crest_of, height, heights_of, peak_refusal}
use Rattle.fine_peak.specs.declared.Crest.{Crest}
use Rattle.fine_peak.specs.declared.Heights.{Heights}

-- the search goes on by one entry
pub met_next : (t : ℕ → Float) (k : ℕ) (c : Crest) (x : Float) → c ≡ crest_of t k → x ≡ t k → tie c k x ≡ crest_of t (k + 1)
unfolding crest_of
met_next t k c x e h = rw add-one (cc)

-- it finds a position that it passed
pub found_within : (t : ℕ → Float) (n m : ℕ) → n ≤ suc m → (crest_of t n).places.first ≤ m
unfolding crest_of
found_within t zero m h = omega arith
found_within t (suc n) m h =
    let before = found_within t n m (omega arith) in
    pick_all (λ (c : Crest). c.places.first ≤ m) _ _ _ (omega arith) (pick_all (λ (c : Crest). c.places.first ≤ m) _ _ _ before before)

pub peak_within : (correlation : List Float) (span : ℕ) (h : Heights) → h ≡ heights_of correlation (span + 1) → h.crest.places.first ≤ span
unfolding heights_of
peak_within correlation span h e =
    let f = found_within (height correlation) (span + 1) span (omega arith) in
    rw e f

-- the array is long enough
pub long_enough : (s : Fine) (entries len n : ℕ) → n ≡ first_refusals s (leb entries len) → n ≡ 0 → entries ≤ len
long_enough s entries len n e z = leb-true entries len (accepted s (leb entries len) (sym e ∙ z)).0

module _ (s : Fine) (correlation : List Float) (n : ℕ) (e : n ≡ peak_refusal s correlation) (z : n ≡ 0) where
  first_passed : first_refusals s (leb (span_of s + 1) (length correlation)) ≡ 0
  unfolding peak_refusal
  first_passed = (passed_both _ _ (sym e ∙ z)).0

  pub entries_there : span_of s + 1 ≤ length correlation
  entries_there = leb-true _ _ (accepted s _ first_passed).0

  pub sound : Sound s
  sound = (accepted s _ first_passed).1
