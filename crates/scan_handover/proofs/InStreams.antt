-- In a stream, a run stands for the single calls of the part that it takes: `RunInStream`.
use Prim.Native.Nat.{ℕ, ◌+◌}
use mathlib.Core.Path.{◌≡◌, refl, sym, ap, ◌∙◌}
use mathlib.Core.List.{List, [], ◌∷◌}
use lib.ListN.{take}
use lib.Ieee.{Float}
use Rattle.scan.specs.State.{World}
use Rattle.scan.specs.Calls.{pushed_near}
use Rattle.scan.specs.Steps.{near, deed, Response, takes, with_levels, called}
use Rattle.scan.specs.Streams.{AllF32, after, answers, Fair}
use Rattle.scan_handover.specs.Handover.{NearRun, handed}
use Rattle.scan_handover.specs.Singles.{Pushes, singles, taken_in}
use Rattle.scan_handover.specs.InStreams.{as_items, as_responses, RunInStream, RefusedInStream}
use Rattle.scan_handover.proofs.Calls.{not_handed}
use Rattle.scan_handover.proofs.Theorems.{run_is_singles, all_f32}

abbrev left : World → Pushes → World
left w p = record { scan = p.scan; buffers = with_levels w.buffers p.levels }

after_singles : (slack : ℕ) (xs : List Float) (w : World) (index : ℕ) → after slack w (as_items xs index) ≡ left w (singles w.scan w.buffers.levels xs index)
unfolding after called singles
after_singles slack [] w index = refl
after_singles slack (x ∷ xs) w index = after_singles slack xs (called slack w (deed (near x index))).world (index + 1)

told_singles : (slack : ℕ) (xs : List Float) (w : World) (index : ℕ) → answers slack w (as_items xs index) ≡ as_responses (singles w.scan w.buffers.levels xs index).answers
unfolding answers called singles
told_singles slack [] w index = refl
told_singles slack (x ∷ xs) w index = ap (λ (z : List Response). takes (pushed_near w.scan w.buffers.levels x index).took.answer ∷ z) (told_singles slack xs (called slack w (deed (near x index))).world (index + 1))

fair_singles : (slack : ℕ) (xs : List Float) (w : World) (index : ℕ) → AllF32 xs → Fair slack w (as_items xs index)
fair_singles slack [] w index a = tt
fair_singles slack (x ∷ xs) w index a = (a.0, fair_singles slack xs (called slack w (deed (near x index))).world (index + 1) a.1)

pub run_in_stream : RunInStream
run_in_stream slack w xs first sum samples z =
    let p = run_is_singles w.scan w.buffers.levels xs first sum samples z in
    let n = taken_in (handed w.scan w.buffers.levels xs first).handed.answer in
    record {
      world = after_singles slack (take n xs) w first ∙ sym (λ i. record { scan = p.state i; buffers = with_levels w.buffers (p.bins i) });
      told = told_singles slack (take n xs) w first ∙ ap as_responses p.answers;
      fair = fair_singles slack (take n xs) w first (all_f32 n xs samples);
    }

pub refused_in_stream : RefusedInStream
refused_in_stream w xs first h = ap (λ (r : NearRun). record { scan = r.handed.scan; buffers = with_levels w.buffers r.levels }) (sym (not_handed w.scan w.buffers.levels xs first refl h))
