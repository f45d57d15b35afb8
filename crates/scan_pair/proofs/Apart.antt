-- "What one channel is fed, refused, rearmed or discarded must not change the other's answers, counts or reports."
use Prim.Native.Nat.{ℕ}
use mathlib.Core.Path.{◌≡◌, refl, sym, ap, ◌∙◌, subst}
use mathlib.Core.List.{List, [], ◌∷◌}
use Rattle.scan.specs.Streams.{Item, after, answers}
use Rattle.scan.proofs.Scratch.{ScratchAlike}
use Rattle.scan_pair.specs.State.{Side, first, second, other, Named, channel, unknown, named, PairWorld, seen}
use Rattle.scan_pair.specs.Steps.{Own, on, far, reset, settings}
use Rattle.scan_pair.specs.Streams.{PairItem, own, foreign, own_share, share, answers_to, F32Own, F32Items, PairBegan, pair_after, with_item, items_of, unless_named, without, AsAlone, Apart}
use Rattle.scan_pair.proofs.Together.{PairSound}
use Rattle.scan_pair.proofs.Steps.{alike_same, alike_between, alike_then}
use Rattle.scan_pair.proofs.Projects.{projects}
use Rattle.scan_pair.proofs.Began.{began_each, began_sound}

-- ---- the list without the other's calls is the same list for channel d

module _ (c : ℕ) (k : Own) (rest items : List PairItem) where
  kept : (d : Side) (n : Named) → named c ≡ n → items_of d rest ≡ items_of d items → items_of d (own (on c k) ∷ rest) ≡ with_item (own_share d n k) (items_of d items)
  unfolding items_of share
  kept d n e r = ap (λ (m : Named). with_item (own_share d m k) (items_of d rest)) e ∙ ap (with_item (own_share d n k)) r

  one_less : (d : Side) (n : Named) → named c ≡ n → items_of d rest ≡ items_of d items → items_of d (unless_named (other d) n (own (on c k)) rest) ≡ with_item (own_share d n k) (items_of d items)
  one_less first (channel first) e r = kept first (channel first) e r
  one_less first (channel second) e r = r
  one_less second (channel first) e r = r
  one_less second (channel second) e r = kept second (channel second) e r
  one_less first unknown e r = kept first unknown e r
  one_less second unknown e r = kept second unknown e r

same_items : (d : Side) (items : List PairItem) → items_of d (without (other d) items) ≡ items_of d items
unfolding items_of without share
same_items d [] = refl
same_items d (own (on c k) ∷ items) = one_less c k (without (other d) items) items d (named c) refl (same_items d items)
same_items d (own (far xs) ∷ items) = ap (with_item (share d (far xs))) (same_items d items)
same_items d (own reset ∷ items) = ap (with_item (share d reset)) (same_items d items)
same_items d (own (settings r) ∷ items) = ap (with_item (share d (settings r))) (same_items d items)
same_items d (foreign v c ∷ items) = same_items d items

one_less_f32 : (e : Side) (n : Named) (c : ℕ) (k : Own) (rest : List PairItem) → F32Own k → F32Items rest → F32Items (unless_named e n (own (on c k)) rest)
one_less_f32 first (channel first) c k rest f r = r
one_less_f32 first (channel second) c k rest f r = (f, r)
one_less_f32 second (channel first) c k rest f r = (f, r)
one_less_f32 second (channel second) c k rest f r = r
one_less_f32 first unknown c k rest f r = (f, r)
one_less_f32 second unknown c k rest f r = (f, r)

without_f32 : (e : Side) (items : List PairItem) → F32Items items → F32Items (without e items)
unfolding without
without_f32 e [] f = tt
without_f32 e (own (on c k) ∷ items) f = one_less_f32 e (named c) c k (without e items) f.0 (without_f32 e items f.1)
without_f32 e (own (far xs) ∷ items) f = (f.0, without_f32 e items f.1)
without_f32 e (own reset ∷ items) f = (f.0, without_f32 e items f.1)
without_f32 e (own (settings r) ∷ items) f = (f.0, without_f32 e items f.1)
without_f32 e (foreign v c ∷ items) f = without_f32 e items f

pub as_alone : AsAlone
as_alone slack rate ceiling d w items b f = (began_each slack rate ceiling d w b, (projects slack d items w (seen w d) (began_sound slack rate ceiling w b) f (alike_same (seen w d))).said_same)

pub apart : Apart
apart slack rate ceiling d w items b f =
    (as_alone slack rate ceiling d w items b f).1 ∙ ap (answers slack (seen w d)) (sym (same_items d items)) ∙ sym (as_alone slack rate ceiling d w (without (other d) items) b (without_f32 (other d) items f)).1

-- and what the channel sees after the list is the same but for the scratch
pub apart_after : (slack rate ceiling : ℕ) (d : Side) (w : PairWorld) (items : List PairItem) → PairBegan slack rate ceiling w → F32Items items
    → ScratchAlike (seen (pair_after slack w items) d) (seen (pair_after slack w (without (other d) items)) d)
apart_after slack rate ceiling d w items b f =
    let s = began_sound slack rate ceiling w b in
    let v = seen w d in
    let h : ScratchAlike (seen (pair_after slack w items) d) (after slack v (items_of d items)) = (projects slack d items w v s f (alike_same v)).left_alike in
    let k : ScratchAlike (seen (pair_after slack w (without (other d) items)) d) (after slack v (items_of d (without (other d) items))) = (projects slack d (without (other d) items) w v s (without_f32 (other d) items f) (alike_same v)).left_alike in
    let m : ScratchAlike (seen (pair_after slack w (without (other d) items)) d) (after slack v (items_of d items)) = subst (λ (l : List Item). ScratchAlike (seen (pair_after slack w (without (other d) items)) d) (after slack v l)) (same_items d items) k in
    alike_then _ _ _ h (alike_between _ _ _ m (alike_same (seen (pair_after slack w (without (other d) items)) d)))

-- "window and prefixes are shared scratch": whatever they hold at any moment, and the lag scores too, the answers from there on are the same
pub scratch_free : (slack : ℕ) (d : Side) (w v : PairWorld) (items : List PairItem) → PairSound slack w → PairSound slack v → F32Items items → ScratchAlike (seen w d) (seen v d) → answers_to d slack w items ≡ answers_to d slack v items
scratch_free slack d w v items s t f h = (projects slack d items w (seen v d) s f h).said_same ∙ sym (projects slack d items v (seen v d) t f (alike_same (seen v d))).said_same
