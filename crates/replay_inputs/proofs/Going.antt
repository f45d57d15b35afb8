-- A window that is passed, and read on or not.
use Prim.Native.Nat.{ℕ}
use mathlib.Core.Path.{◌≡◌, refl, sym, subst}
use mathlib.Core.Bool.{Bool, true, false}
use mathlib.Core.List.{List}
use lib.ListN.{length}
use Rattle.pipes.specs.Window.{Within, Grown, Went}
use Rattle.pipes.specs.declared.window.Window.{Window}
use Rattle.pipes.proofs.Going.{went_past, went_on}
use Rattle.replay_stream.specs.declared.Bytes.{Bytes}
use Rattle.replay_stream.specs.declared.Input.{Input}
use Rattle.replay_stream.specs.declared.Input.TheVariants.{Entries, FarSide, NearSide}
use Rattle.replay_stream.specs.declared.Answer.{Answer}
use Rattle.replay_stream.specs.declared.Answer.TheVariants.{Wants}
use Rattle.replay_inputs.specs.Inputs.{AllWithin, is_input, wanted_by, WentOn, Passed, AllPassed, ReadOn, OneRead}
use Rattle.replay_inputs.specs.declared.Inputs.{Inputs}

went : (reads : Bool) (n : ℕ) (w r w' : Window) (room room' : List ℕ) → Within w → Passed n w r → ReadOn reads r room w' room' → Went reads n w room w' room'
went true n w r w' room room' i p g = went_on w room n r w' room' i p.1 p.2 p.3 g
went false n w r w' room room' i p (e, f) =
    subst (λ (z : List ℕ). Went false n w room w' z) (sym f)
    (subst (λ (z : Window). Went false n w room z room) (sym e) (went_past w room n r i p.0 p.1 p.2 p.3))

-- one input was read, and the others were not
pub read_entries : (j : Input) (i i' : Inputs) (e f n e' : List ℕ) → j ≡ Entries → Grown i.events e i'.events e' → i'.far ≡ i.far → i'.near ≡ i.near → OneRead j i e f n i' e' f n
read_entries j i i' e f n e' is g a b = subst (λ (z : Input). OneRead z i e f n i' e' f n) (sym is) (record { events = g; far = (a, refl); near = (b, refl) })

pub read_far : (j : Input) (i i' : Inputs) (e f n f' : List ℕ) → j ≡ FarSide → Grown i.far f i'.far f' → i'.events ≡ i.events → i'.near ≡ i.near → OneRead j i e f n i' e f' n
read_far j i i' e f n f' is g a b = subst (λ (z : Input). OneRead z i e f n i' e f' n) (sym is) (record { events = (a, refl); far = g; near = (b, refl) })

pub read_near : (j : Input) (i i' : Inputs) (e f n n' : List ℕ) → j ≡ NearSide → Grown i.near n i'.near n' → i'.events ≡ i.events → i'.far ≡ i.far → OneRead j i e f n i' e f n'
read_near j i i' e f n n' is g a b = subst (λ (z : Input). OneRead z i e f n i' e f n') (sym is) (record { events = (a, refl); far = (b, refl); near = g })

module _ (u : Bytes) (i r i' : Inputs) (e f n e' f' n' : List ℕ) (in-room : (AllWithin i) × (length e ≡ 65536) × (length f ≡ 65536) × (length n ≡ 65536)) (p : AllPassed u i r) where
  pub went_read : (a : Answer) (j : Input) → a ≡ Wants j → OneRead j r e f n i' e' f' n' → WentOn a u i e f n i' e' f' n'
  went_read a j is o =
      subst (λ (z : Answer). WentOn z u i e f n i' e' f' n') (sym is)
      (record {
        events = went (is_input Entries j) u.events i.events r.events i'.events e e' in-room.0.events p.events o.events;
        far = went (is_input FarSide j) u.far i.far r.far i'.far f f' in-room.0.far p.far o.far;
        near = went (is_input NearSide j) u.near i.near r.near i'.near n n' in-room.0.near p.near o.near;
      })

module _ (u : Bytes) (i r : Inputs) (e f n : List ℕ) (in-room : (AllWithin i) × (length e ≡ 65536) × (length f ≡ 65536) × (length n ≡ 65536)) (p : AllPassed u i r) where
  still : (a : Answer) → wanted_by a Entries ≡ false → wanted_by a FarSide ≡ false → wanted_by a NearSide ≡ false → WentOn a u i e f n r e f n
  still a x y z =
      record {
        events = subst (λ (b : Bool). Went b u.events i.events e r.events e) (sym x) (went false u.events i.events r.events r.events e e in-room.0.events p.events (refl, refl));
        far = subst (λ (b : Bool). Went b u.far i.far f r.far f) (sym y) (went false u.far i.far r.far r.far f f in-room.0.far p.far (refl, refl));
        near = subst (λ (b : Bool). Went b u.near i.near n r.near n) (sym z) (went false u.near i.near r.near r.near n n in-room.0.near p.near (refl, refl));
      }

  pub went_still : (a b : Answer) → a ≡ b → wanted_by b Entries ≡ false → wanted_by b FarSide ≡ false → wanted_by b NearSide ≡ false → WentOn a u i e f n r e f n
  went_still a b is x y z = subst (λ (c : Answer). WentOn c u i e f n r e f n) (sym is) (still b x y z)
