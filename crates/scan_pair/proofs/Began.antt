-- A pair that begins, by a making or by an accepted reset, is for each channel a scan that begins; and from there on what each channel sees is sound.
use Prim.Native.Nat.{ℕ}
use mathlib.Core.Path.{◌≡◌, sym, subst}
use mathlib.Core.List.{List, [], ◌∷◌}
use Rattle.answers.specs.Refusals.{none}
use Rattle.scan.specs.Steps.{Response, refusal_of}
use Rattle.scan.specs.Streams.{Began, after}
use Rattle.scan.specs.Streams as stream
use Rattle.scan.proofs.Healthy as scan
use Rattle.scan_pair.specs.State.{Side, PairWorld, buffers_of, seen}
use Rattle.scan_pair.specs.Steps.{pair_called}
use Rattle.scan_pair.specs.Streams.{PairItem, own, foreign, F32Items, PairFair, PairBegan, by_making, by_reset}
use Rattle.scan_pair.proofs.Together.{making_together, reset_together, reset_of_each, PairSound}

pub began_each : (slack rate ceiling : ℕ) (d : Side) (w : PairWorld) → PairBegan slack rate ceiling w → Began slack rate ceiling (seen w d)
began_each slack rate ceiling d w (by_making lent e) =
    let o = making_together slack rate ceiling lent d e in
    subst (Began slack rate ceiling) (sym o.world) (stream.by_making (buffers_of lent d) (subst (λ (a : Response). refusal_of a ≡ none) o.response e))
began_each slack rate ceiling d w (by_reset v p q a) = subst (Began slack rate ceiling) (sym (reset_together slack v d a).world) (stream.by_reset (seen v d) p q (reset_of_each slack v d a))

pub began_sound : (slack rate ceiling : ℕ) (w : PairWorld) → PairBegan slack rate ceiling w → PairSound slack w
unfolding after
began_sound slack rate ceiling w b d = scan.stays_sound slack rate ceiling (seen w d) [] (began_each slack rate ceiling d w b) tt

-- samples of a fair stream are of the type f32
pub fair_f32 : (slack : ℕ) (items : List PairItem) (w : PairWorld) → PairFair slack w items → F32Items items
fair_f32 slack [] w f = tt
fair_f32 slack (own c ∷ items) w f = (f.0, fair_f32 slack items (pair_called slack w c).world f.2)
fair_f32 slack (foreign v c ∷ items) w f = fair_f32 slack items w f.1
