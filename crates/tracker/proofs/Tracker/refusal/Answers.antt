-- `Tracker::refusal` meets its contract.
use mathlib.Core.Bool.{true, false}
use mathlib.Core.Path.{◌≡◌}
use Rattle.answers.proofs.Cases.{cases}
use Rattle.tracker.specs.Tracker.{same_bands, state_refusal}
use Rattle.tracker.proofs.Equal.{same_unless}
use Rattle.tracker.proofs.Tracker.refusal.Goals as goal
use Rattle.tracker.proofs.Tracker.refusal.Goals.{then-not-below_limit-via-then-not-below_limit, then-not-below_limit-via-else-not-below_limit+then-not-below_limit-2}

pub returns-then-not-allowed_rate : goal.returns-then-not-allowed_rate
unfolding state_refusal
returns-then-not-allowed_rate c = search (cases, ← c.allowed_rate.ensures)

pub returns-then-ne : goal.returns-then-ne
unfolding state_refusal
returns-then-ne c =
    let bands : same_bands c.args.self.bands c.bands_of.result ≡ false = same_unless _ _ _ _ c.ne.ensures c.if-ne.true in
    search (cases, ← c.allowed_rate.ensures, ← c.bands_of.ensures, bands)

pub returns-then-not-below_limit : goal.returns-then-not-below_limit
unfolding state_refusal
returns-then-not-below_limit c =
    let bands : same_bands c.args.self.bands c.bands_of.result ≡ true = same_unless _ _ _ _ c.ne.ensures c.if-ne.false in
    elim c.then-not-below_limit.branch [
      | then-not-below_limit-via-then-not-below_limit w ↦
          search (cases, ← c.allowed_rate.ensures, ← c.bands_of.ensures, bands, ← c.below_limit.ensures, w.if-not-below_limit.true)
      | then-not-below_limit-via-else-not-below_limit+then-not-below_limit-2 w ↦
          search (cases, ← c.allowed_rate.ensures, ← c.bands_of.ensures, bands, ← c.below_limit.ensures, w.if-not-below_limit.false, ← w.below_limit-else-not-below_limit.ensures, w.if-not-below_limit-2.true)
    ]

pub returns-then-self : goal.returns-then-self
unfolding state_refusal
returns-then-self c =
    let bands : same_bands c.args.self.bands c.bands_of.result ≡ true = same_unless _ _ _ _ c.ne.ensures c.if-ne.false in
    search (cases, ← c.allowed_rate.ensures, ← c.bands_of.ensures, bands, ← c.below_limit.ensures, ← c.below_limit-else-not-below_limit.ensures)

pub returns : goal.returns
unfolding state_refusal
returns c =
    let bands : same_bands c.args.self.bands c.bands_of.result ≡ true = same_unless _ _ _ _ c.ne.ensures c.if-ne.false in
    search (cases, ← c.allowed_rate.ensures, ← c.bands_of.ensures, bands, ← c.below_limit.ensures, ← c.below_limit-else-not-below_limit.ensures)
