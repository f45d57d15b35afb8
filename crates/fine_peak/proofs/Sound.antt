-- A state that keeps the rules keeps them through a search.
use Rattle.std.proofs.Common.{eqb, List}
use lib.Ieee.{Float}
use Rattle.answers.specs.Pick.{pick_all}
use Rattle.fine.specs.State.{Sound}
use Rattle.fine.specs.declared.Fine.{Fine}
use Rattle.fine_peak.specs.Peak.{ruled, peak_refusal, searched}
use Rattle.fine_peak.specs.declared.Searched.{Searched}

pub searched_sound : (s : Fine) (correlation : List Float) → Sound s → Sound (searched s correlation).fine
unfolding searched ruled
searched_sound s correlation h =
    pick_all (λ (r : Searched). Sound r.fine) (eqb (peak_refusal s correlation) 0) _ _
    (record { least = h.least; most = h.most; transform = h.transform; frame = h.frame; origin = h.origin; near = h.near })
    h
