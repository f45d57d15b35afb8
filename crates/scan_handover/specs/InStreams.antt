-- Request a and demand 3: in a stream, a run stands for the single calls of the part that it takes. So what demand 3 says of any list of calls it says of lists with runs among them.
use Rattle.std.specs.Prelude.{ℕ, ◌+◌, ◌≡◌, List, [], ◌∷◌, T, take, Float}
use Rattle.std.specs.Float.{binary64}
use Rattle.std.specs.Float.Ieee.{fits}
use Rattle.answers.specs.Refusals.{none}
use Rattle.scan.specs.State.{World}
use Rattle.scan.specs.Blocks.{held_at}
use Rattle.scan.specs.Steps.{near, deed, Response, takes, with_levels}
use Rattle.scan.specs.Streams.{AllF32, Item, own, after, answers, Fair}
use Rattle.scan.specs.declared.Taking.{Taking}
use Rattle.scan_handover.specs.Handover.{lead, run_refusal, handed}
use Rattle.scan_handover.specs.Singles.{taken_in, singly}

-- samples with rising indices, each a call on the stream's own state and buffers
abbrev pub as_items : List Float → ℕ → List Item
as_items [] index = []
as_items (x ∷ xs) index = own (deed (near x index)) ∷ as_items xs (index + 1)

abbrev pub as_responses : List Taking → List Response
as_responses [] = []
as_responses (a ∷ later) = takes a ∷ as_responses later

-- what a run leaves of a scan and its buffers
abbrev pub after_run : World → List Float → ℕ → World
after_run w xs first =
    let r = handed w.scan w.buffers.levels xs first in
    record { scan = r.handed.scan; buffers = with_levels w.buffers r.levels }

-- the items that a run stands for
abbrev pub items_of : World → List Float → ℕ → List Item
items_of w xs first = as_items (take (taken_in (handed w.scan w.buffers.levels xs first).handed.answer) xs) first

pub record StandsFor (slack : ℕ) (w : World) (xs : List Float) (first : ℕ) : Type 0 where
  pub world : after slack w (items_of w xs first) ≡ after_run w xs first
  pub told : answers slack w (items_of w xs first)
      ≡ as_responses (singly (lead w.scan.geometry (held_at w.scan.near first) first) (handed w.scan w.buffers.levels xs first).handed.answer)
  pub fair : Fair slack w (items_of w xs first)

-- of any world and any run that is not refused; a refused one leaves the world as it is
abbrev pub RunInStream : Type 0
RunInStream =
    (slack : ℕ) (w : World) (xs : List Float) (first : ℕ) → T (fits binary64 w.scan.near.sum) → AllF32 xs → run_refusal w.scan w.buffers.levels xs first ≡ none → StandsFor slack w xs first

abbrev pub RefusedInStream : Type 0
RefusedInStream = (w : World) (xs : List Float) (first : ℕ) → (run_refusal w.scan w.buffers.levels xs first ≡ none → ⊥) → after_run w xs first ≡ w
