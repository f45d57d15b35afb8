-- A window at the front of its room, and bytes read behind it.
use native.Mathlib.Omega.{arith}
use Prim.Native.Nat.{ℕ, ◌+◌, ◌-◌, ◌≤◌}
use mathlib.Core.Path.{◌≡◌, refl, sym, ap, ◌∙◌}
use mathlib.Core.List.{List, ◌++◌}
use lib.ListN.{length, take, drop, length-drop}
use lib.Seq.{take-add, length-take-le}
use Rattle.pipes.specs.declared.window.Window.{Window}
use Rattle.pipes.specs.Window.{at_hand, Grown}

-- the bytes at hand of a window at the front
pub front_hand : (w : Window) (room : List ℕ) → w.at ≡ 0 → at_hand w room ≡ take w.end room
front_hand w room front =
    let all : w.end - w.at ≡ w.end = omega arith in
    rw (all, front) refl

-- bytes that were moved to the front are those at hand
pub moved_hand : (k : ℕ) (room moved : List ℕ) → take k moved ≡ room → take (k - 0) (drop 0 moved) ≡ room
moved_hand k room moved same =
    let all : k - 0 ≡ k = omega arith in
    rw all same

-- n bytes came, and what stood before them is as it was
pub grows : (w w' : Window) (room room' : List ℕ) (n : ℕ) → w.at ≡ 0 → w'.at ≡ 0 → w'.end ≡ w.end + n → w'.end ≤ 65536 → length room' ≡ 65536 → n + w'.left ≤ w.left → w'.left ≤ w.left - 1
    → take w.end room' ≡ take w.end room → Grown w room w' room'
grows w w' room room' n front front' end inside size counts falls same =
    let there : n ≤ length (drop w.end room') = rw (length-drop w.end room') (omega arith) in
    let more : length (take n (drop w.end room')) ≡ n = length-take-le n (drop w.end room') there in
    record {
      within = record { order = omega arith; inside = inside };
      more = take n (drop w.end room');
      joins = front_hand w' room' front' ∙ ap (λ (k : ℕ). take k room') end ∙ take-add w.end n room' ∙ ap (λ (t : List ℕ). t ++ take n (drop w.end room')) (same ∙ sym (front_hand w room front));
      counts = omega (arith, more);
      falls = falls;
    }

-- what came behind bytes that had moved came behind them where they were
pub grown_from : (w front r : Window) (room moved room' : List ℕ) → front.left ≡ w.left → at_hand front moved ≡ at_hand w room → Grown front moved r room' → Grown w room r room'
grown_from w front r room moved room' left same g =
    record { within = g.within; more = g.more; joins = g.joins ∙ ap (λ (t : List ℕ). t ++ g.more) same; counts = omega (arith, left, g.counts); falls = omega (arith, left, g.falls) }
