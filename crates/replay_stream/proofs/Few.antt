-- An event has at most 4,096 samples.
use Rattle.std.specs.Prelude.{Option, Some, None}
use Prim.Native.Nat.{ℕ, ◌+◌}
use mathlib.Core.Path.{◌≡◌, subst}
use mathlib.Core.List.{List}
use lib.Dec.{eqb, leb}
use lib.ListN.{length}
use Rattle.answers.specs.Pick.{both, pick_all, pick_case}
use Rattle.answers.proofs.Passed.{both_true, within_most}
use Rattle.recording.specs.Bytes.{number_at}
use Rattle.recording.specs.Recording.{u32_at, some_samples, unused, only_if, event_of, event_at}
use Rattle.recording.specs.declared.Event.{Event}
use Rattle.recording.specs.declared.Event.TheVariants as event
use Rattle.replay_stream.specs.Stream.{Few, need_of}

abbrev F : Option Event → Type 0
F k = Few (need_of k)

-- an event that uses neither field
plain_few : (k : Event) (count number : ℕ) → F (Some k) → F (only_if (both (unused count) (unused number)) k)
plain_few k count number f = pick_all F (both (unused count) (unused number)) (Some k) None f tt

of_few : (kind count number : ℕ) → F (event_of kind count number)
unfolding event_of
of_few kind count number =
    pick_all F (eqb kind 1) _ _
    (pick_case F (both (some_samples count) (unused number)) (Some (event.Far count)) None (λ t. within_most 1 4096 count (both_true (some_samples count) (unused number) t).0) (λ t. tt))
    (pick_all F (eqb kind 2) _ _ (pick_case F (some_samples count) (Some (event.Near count number)) None (λ t. within_most 1 4096 count t) (λ t. tt))
    (pick_all F (eqb kind 3) _ _ (plain_few event.Rearm count number tt)
    (pick_all F (eqb kind 4) _ _ (plain_few event.DiscardNear count number tt)
    (pick_all F (eqb kind 5) _ _ (plain_few event.Unconfident count number tt)
    (pick_all F (eqb kind 6) (Some (event.Interior count number)) _ tt
    (pick_all F (eqb kind 7) (Some (event.Edge count number)) _ tt
    (pick_all F (eqb kind 8) _ None (plain_few event.Discontinuity count number tt) tt)))))))

pub entry_few : (s : List ℕ) (at : ℕ) → Few (need_of (event_at s at))
unfolding event_at
entry_few s at =
    pick_all F (leb (at + 16) (length s)) (event_of (u32_at s at) (u32_at s (at + 4)) (number_at 8 s (at + 8))) None
    (of_few (u32_at s at) (u32_at s (at + 4)) (number_at 8 s (at + 8))) tt

pub good_few : (s : List ℕ) (at : ℕ) (k : Event) → event_at s at ≡ Some k → Few (need_of (Some k))
good_few s at k e = subst F e (entry_few s at)
