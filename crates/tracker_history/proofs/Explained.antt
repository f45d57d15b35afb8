-- The verdicts in the request's own sentences: words replaced by what they mean.
use Prim.Native.Nat.{ℕ}
use mathlib.Core.Path.{◌≡◌, refl}
use mathlib.Core.Logic.Iff
use mathlib.Core.Logic.{◌↔◌}
use mathlib.Core.Bool.{Bool, true, false, true≢false, false≢true}
use mathlib.Core.List.{[], ◌∷◌, ◌++◌}
use Rattle.tracker_history.specs.Histories.{cycle, discontinuity, History, suspicion, tracker_after, Accepted}
use Rattle.tracker_history.specs.Sentences.{AllExplained, MovedThen}
use Rattle.tracker_history.proofs.Verdicts.{lost, seam, edge, move, move_leaves}
use Rattle.tracker_history.proofs.Sentences.{run_reads, suspicion_reads, edges_read, moves_read}

off : (b : Bool) → (b ≡ false) ↔ (b ≡ true → ⊥)
off true = ((λ e. absurd (true≢false e)), λ n. absurd (n refl))
off false = ((λ e. false≢true), λ n. refl)

pub explained : AllExplained
unfolding tracker_after
explained rate h a o ok =
    let off-told = Iff.trans (off (suspicion rate h)) (Iff.not (suspicion_reads rate h)) in
    record {
      lost = Iff.trans (lost rate h a o ok) (Iff.and (run_reads 8 (cycle a o ∷ h)) off-told);
      seam = Iff.trans (seam rate h a o ok) (Iff.and (run_reads 4 (cycle a o ∷ h)) (suspicion_reads rate h));
      edge = Iff.trans (edge rate h a o ok) (Iff.and Iff.rfl (edges_read 3 (cycle a o ∷ h)));
      move = Iff.trans (move rate h a o ok) (moves_read rate h a o);
      leaves = move_leaves rate h a o ok;
    }

-- every earlier part of an accepted history is accepted
before : (rate : ℕ) (since earlier : History) → Accepted rate (since ++ earlier) → Accepted rate earlier
before rate [] earlier ok = ok
before rate (cycle a o ∷ since) earlier ok = before rate since earlier ok.1
before rate (discontinuity ∷ since) earlier ok = before rate since earlier ok.1

pub moved_then : MovedThen
moved_then rate since a o earlier ok = move rate earlier a o (before rate since (cycle a o ∷ earlier) ok)
