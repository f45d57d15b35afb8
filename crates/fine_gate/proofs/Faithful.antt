-- What an answer tells is the whole answer: it can be read back, so two answers that tell the same are the same.
use Rattle.std.proofs.Common.{◌≡◌, ℕ, eqb, List, get_or, sym, refl, ap, ◌∙◌}
use Rattle.answers.specs.Pick.{pick}
use Rattle.fine_gate.specs.declared.Taking.{Taking}
use Rattle.fine_gate.specs.declared.Taking.TheVariants as taking
use Rattle.fine_gate.specs.declared.GateAnswer.{GateAnswer}
use Rattle.fine_gate.specs.declared.GateAnswer.TheVariants as gate
use Rattle.fine_gate.specs.declared.RescanAnswer.{RescanAnswer}
use Rattle.fine_gate.specs.declared.RescanAnswer.TheVariants as rescan
use Rattle.fine_gate.specs.Told.{taking_told, gate_told, rescan_told}

same : {A : Type 0} (told : A → List ℕ) (of : List ℕ → A) → ((x : A) → of (told x) ≡ x) → (x y : A) → told x ≡ told y → x ≡ y
same told of back x y e = sym (back x) ∙ ap of e ∙ back y

-- a refusal where the case is 0, else the answer of the case
abbrev case : {A : Type 0} → (ℕ → A) → (ℕ → A) → List ℕ → A
case refused answer told = pick (eqb (get_or told 0 0) 0) (refused (get_or told 1 0)) (answer (get_or told 0 0))

abbrev taking_of : List ℕ → Taking
taking_of = case taking.Refused (λ n. pick (eqb n 1) taking.Taken taking.Full)

taking_back_lem : (x : Taking) → taking_of (taking_told x) ≡ x
unfolding pick
taking_back_lem (taking.Refused n) = refl
taking_back_lem taking.Taken = refl
taking_back_lem taking.Full = refl

pub taking_told_lem : (x y : Taking) → taking_told x ≡ taking_told y → x ≡ y
taking_told_lem x y e = same taking_told taking_of taking_back_lem x y e

abbrev gate_of : List ℕ → GateAnswer
gate_of = case gate.Refused (λ n. pick (eqb n 1) gate.Skipped (pick (eqb n 2) gate.Silent (pick (eqb n 3) gate.First gate.Later)))

gate_back : (x : GateAnswer) → gate_of (gate_told x) ≡ x
unfolding pick
gate_back (gate.Refused n) = refl
gate_back gate.Skipped = refl
gate_back gate.Silent = refl
gate_back gate.First = refl
gate_back gate.Later = refl

pub gate_told_lem : (x y : GateAnswer) → gate_told x ≡ gate_told y → x ≡ y
gate_told_lem x y e = same gate_told gate_of gate_back x y e

abbrev rescan_of : List ℕ → RescanAnswer
rescan_of = case rescan.Refused (λ n. pick (eqb n 1) rescan.NothingRetained (pick (eqb n 2) rescan.Skipped (pick (eqb n 3) rescan.Silent rescan.Taken)))

rescan_back : (x : RescanAnswer) → rescan_of (rescan_told x) ≡ x
unfolding pick
rescan_back (rescan.Refused n) = refl
rescan_back rescan.NothingRetained = refl
rescan_back rescan.Skipped = refl
rescan_back rescan.Silent = refl
rescan_back rescan.Taken = refl

pub rescan_told_lem : (x y : RescanAnswer) → rescan_told x ≡ rescan_told y → x ≡ y
rescan_told_lem x y e = same rescan_told rescan_of rescan_back x y e
