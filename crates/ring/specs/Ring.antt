-- ring.rs, and SPECIFICATION 11: what each call answers, and what a push leaves in the lent buffer.
use Rattle.std.specs.Prelude.{ℕ, ◌+◌, ◌-◌, ◌%◌, List, [], ◌∷◌, Bool, length, set, ltb, leb}
use Rattle.answers.specs.Numbers.{limit}
use Rattle.answers.specs.Pick.{pick, both}
use Rattle.answers.specs.declared.Change.TheVariants as change
use Rattle.answers.specs.declared.Count.{Count}
use Rattle.answers.specs.Answers.{counted}
use Rattle.answers.specs.Refusals.{none, wrong_length, broken_state, too_large, require, before, if_refused}
use Rattle.ring.specs.declared.Ring.{Ring}
use Rattle.ring.specs.declared.Changed.{Changed}
use Rattle.ring.specs.declared.Kept.{Kept}
use Rattle.ring.specs.declared.Kept.TheVariants as kept

-- ---- refusals

-- A ring refuses a buffer of length 0, and at most 2^62 samples are accepted.
unfoldable pub ring_refusal : Ring → ℕ → ℕ
ring_refusal r capacity =
    require (ltb 0 capacity) wrong_length
    (require (leb r.accepted limit) broken_state
    none)

-- A far push is also refused if it would pass 2^62.
unfoldable pub push_refusal : Ring → ℕ → ℕ → ℕ
push_refusal r capacity more =
    before (ring_refusal r capacity)
    (require (leb (r.accepted + more) limit) too_large
    none)

-- Gives the ring and the answer of a call that may change it.
unfoldable pub changed : Ring → ℕ → Ring → Changed
changed given refusal next =
    if_refused refusal
    (record { ring = given; answer = change.Refused refusal })
    (record { ring = next; answer = change.Done })

-- ---- the calls

-- Nothing has been pushed yet.
abbrev pub empty : Ring
empty = record { accepted = 0 }

abbrev pub made : ℕ → Changed
made capacity = changed empty (ring_refusal empty capacity) empty

-- Stores samples whose absolute indices begin at `next`, each at its index modulo the capacity.
abbrev pub stored : ℕ → List ℕ → List ℕ → List ℕ
stored next buf [] = buf
stored next buf (x ∷ xs) = stored (next + 1) (set buf (next % length buf) x) xs

abbrev pub pushed : Ring → ℕ → ℕ → Changed
pushed r capacity more = changed r (push_refusal r capacity more) (record { accepted = r.accepted + more })

unfoldable pub pushed_buf : Ring → List ℕ → List ℕ → List ℕ
pushed_buf r buf xs = if_refused (push_refusal r (length buf) (length xs)) buf (stored r.accepted buf xs)

-- `oldest_retained`: the number of samples dropped, which is also the oldest index that is kept.
abbrev pub oldest : Ring → ℕ → ℕ
oldest r capacity = r.accepted - capacity

-- A sample is kept while a >= next_abs - capacity and a < next_abs.
abbrev pub is_kept : Ring → ℕ → ℕ → Bool
is_kept r capacity a = both (leb (oldest r capacity) a) (ltb a r.accepted)

unfoldable pub gotten : Ring → ℕ → ℕ → Kept
gotten r capacity a =
    if_refused (ring_refusal r capacity)
    (kept.Refused (ring_refusal r capacity))
    (pick (is_kept r capacity a) (kept.At (a % capacity)) kept.NotKept)

abbrev pub next_abs : Ring → ℕ → Count
next_abs r capacity = counted (ring_refusal r capacity) r.accepted

abbrev pub capacity_of : Ring → ℕ → Count
capacity_of r capacity = counted (ring_refusal r capacity) capacity

abbrev pub dropped_of : Ring → ℕ → Count
dropped_of r capacity = counted (ring_refusal r capacity) (oldest r capacity)

abbrev pub cleared : Ring → ℕ → Changed
cleared r capacity = changed r (ring_refusal r capacity) empty
