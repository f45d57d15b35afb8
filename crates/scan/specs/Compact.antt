-- A log of calls with silence in the place of far blocks that no frame reads: the vocabulary, and the statement that it is answered as before.
use Rattle.std.specs.Prelude.{ℕ, ◌+◌, ◌-◌, ◌/◌, ◌≡◌, List, [], ◌∷◌, Bool, true, false, not, T, leb, ltb, eqb, Float}
use Rattle.std.specs.Float.{binary32}
use Rattle.std.specs.Float.Ieee.{fits}
use Rattle.answers.specs.Pick.{pick, both, either}
use Rattle.floats.specs.Functions.{zero64}
use Rattle.folds.specs.Sums.{all_finite}
use Rattle.scan.specs.State.{World, full}
use Rattle.scan.specs.Calls.{is_uncovered, is_ahead}
use Rattle.scan.specs.Steps.{Deed, near, score, rearm, discard, reset, ask, Call, far, deed, called}
use Rattle.scan.specs.Streams.{Item, own, foreign, answers, AllF32, Began}
use Rattle.scan.specs.FourFacts.{is_accepted}
use Rattle.scan.specs.declared.Geometry.{Geometry}

-- ---- the parts of a log: an accepted reset ends one, and from there on blocks are numbered anew

abbrev pub restarts_by : ℕ → World → Deed → Bool
restarts_by slack w (near x index) = false
restarts_by slack w score = false
restarts_by slack w rearm = false
restarts_by slack w discard = false
restarts_by slack w reset = is_accepted slack w (deed reset)
restarts_by slack w (ask r) = false

abbrev pub restarts : ℕ → World → Call → Bool
restarts slack w (far xs) = false
restarts slack w (deed d) = restarts_by slack w d

-- the number of the part that follows a call in part p
abbrev pub part_after : ℕ → World → Call → ℕ → ℕ
part_after slack w c p = pick (restarts slack w c) (p + 1) p

-- ---- what a log reads

-- a full frame that is neither uncovered nor ahead reads the written bins of its window
abbrev pub frame_reads : ℕ → World → ℕ → Bool
frame_reads slack w j =
    let g = w.scan.geometry in
    let s = w.scan.near.first in
    both (full g w.scan.near) (both (not (is_uncovered slack w)) (both (not (is_ahead w)) (both (leb (s - g.span) j) (both (ltb j (s + g.frame)) (ltb j w.scan.far.next)))))

abbrev pub deed_reads : ℕ → World → Deed → ℕ → Bool
deed_reads slack w (near x index) j = false
deed_reads slack w score j = frame_reads slack w j
deed_reads slack w rearm j = false
deed_reads slack w discard j = false
deed_reads slack w reset j = false
deed_reads slack w (ask r) j = false

abbrev pub call_reads : ℕ → World → Call → ℕ → Bool
call_reads slack w (far xs) j = false
call_reads slack w (deed d) j = deed_reads slack w d j

-- some frame of the log, which goes on in part p, reads block j of part q
unfoldable pub log_reads : ℕ → World → ℕ → List Item → ℕ → ℕ → Bool
log_reads slack w p [] q j = false
log_reads slack w p (own c ∷ items) q j = either (both (eqb p q) (call_reads slack w c j)) (log_reads slack (called slack w c).world (part_after slack w c p) items q j)
log_reads slack w p (foreign v c ∷ items) q j = log_reads slack w p items q j

-- ---- silence in the place of blocks that are not kept

-- of samples numbered from n on
abbrev pub silenced : Geometry → (ℕ → Bool) → ℕ → List Float → List Float
silenced g keeps n [] = []
silenced g keeps n (x ∷ xs) = pick (keeps (n / g.decimation)) x zero64 ∷ silenced g keeps (n + 1) xs

-- A push with a sample that is not finite stays as it is: it is refused, and silence might not be.
abbrev pub compact_call : (ℕ → Bool) → World → Call → Call
compact_call keeps w (far xs) = far (pick (all_finite xs) (silenced w.scan.geometry keeps w.scan.far.accepted xs) xs)
compact_call keeps w (deed d) = deed d

-- `keeps` says of each part which blocks are kept
unfoldable pub compacted : ℕ → (ℕ → ℕ → Bool) → World → ℕ → List Item → List Item
compacted slack keeps w p [] = []
compacted slack keeps w p (own c ∷ items) = own (compact_call (keeps p) w c) ∷ compacted slack keeps (called slack w c).world (part_after slack w c p) items
compacted slack keeps w p (foreign v c ∷ items) = foreign v c ∷ compacted slack keeps w p items

-- ---- the statement

-- samples are of the type f32; resets may be accepted
abbrev pub F32Deed : Deed → Type 0
F32Deed (near x index) = T (fits binary32 x)
F32Deed score = Unit {0}
F32Deed rearm = Unit {0}
F32Deed discard = Unit {0}
F32Deed reset = Unit {0}
F32Deed (ask r) = Unit {0}

abbrev pub F32Call : Call → Type 0
F32Call (far xs) = AllF32 xs
F32Call (deed d) = F32Deed d

abbrev pub F32Log : List Item → Type 0
F32Log [] = Unit {0}
F32Log (own c ∷ items) = F32Call c × F32Log items
F32Log (foreign v c ∷ items) = F32Log items

-- with every block kept that some frame reads, a stream's log is answered as before
abbrev pub Compacts : Type 0
Compacts =
    (slack rate ceiling : ℕ) (w : World) (items : List Item) → Began slack rate ceiling w → F32Log items
    → (keeps : ℕ → ℕ → Bool) → ((q j : ℕ) → log_reads slack w 0 items q j ≡ true → keeps q j ≡ true)
    → answers slack w (compacted slack keeps w 0 items) ≡ answers slack w items
