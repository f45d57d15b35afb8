-- A start that is ready, and that `start` accepts what was opened.
use Rattle.std.specs.Prelude.{Some}
use Prim.Native.Nat.{ℕ}
use mathlib.Core.Path.{◌≡◌, ap, ◌∙◌}
use mathlib.Core.Bool.{Bool, true, false}
use mathlib.Core.List.{List}
use native.Mathlib.Omega.{arith}
use lib.Dec.{eqb}
use borrow.Author.Tests.{eq-eqb}
use Rattle.answers.specs.Pick.{pick, pick_true}
use Rattle.scan.specs.Bins.{in_table, geometry_of, full_slack}
use Rattle.scan.specs.State.{Buffers}
use Rattle.scan.specs.Calls.{all_lengths}
use Rattle.recording.specs.Recording.{opened}
use Rattle.recording.proofs.Forms.{opened_allowed}
use Rattle.recording.specs.declared.Header.{Header}
use Rattle.replay.specs.Log.{new_session, clear_buffers}
use Rattle.replay.specs.Beginning.{Beginning, beginning, start_refusal, beginning_of}
use Rattle.replay.specs.declared.Session.{Session}
use Rattle.replay.specs.declared.Begun.TheVariants as begun

ready_for : (t : Bool) (n : ℕ) (s s₁ : Session) (b c c₁ : Buffers) → beginning (begun.Ready s) c ≡ pick t (beginning (begun.Ready s₁) c₁) (beginning (begun.Refused n) b) → (s ≡ s₁) × (c ≡ c₁)
unfolding pick
ready_for true n s s₁ b c c₁ e = let q : begun.Ready s ≡ begun.Ready s₁ = ap (λ (x : Beginning). x.begun) e in (cc, ap (λ (x : Beginning). x.buffers) e)
ready_for false n s s₁ b c c₁ e =
    let q : begun.Ready s ≡ begun.Refused n = ap (λ (x : Beginning). x.begun) e in
    let z : ◌≡◌ {A = ℕ} 0 1 = cc in
    absurd (omega (arith, z))

-- a start that is ready has a new session and clear buffers
pub ready_is : (h : Header) (b c : Buffers) (s : Session) → beginning (begun.Ready s) c ≡ beginning_of h b
    → (s ≡ new_session h.rate h.ceiling) × (c ≡ clear_buffers (geometry_of h.rate h.ceiling))
unfolding beginning_of
ready_is h b c s e =
    ready_for (eqb (start_refusal h.rate h.ceiling b) 0) (start_refusal h.rate h.ceiling b) s (new_session h.rate h.ceiling) b c (clear_buffers (geometry_of h.rate h.ceiling)) e

pub opened_in_table : (events : List ℕ) (h : Header) → opened events ≡ Some h → in_table h.rate h.ceiling ≡ true
unfolding in_table
opened_in_table events h q = opened_allowed events h q

-- with buffers of the right lengths `start` never refuses a header that was opened
pub accepts : (events : List ℕ) (h : Header) (b : Buffers) → opened events ≡ Some h → all_lengths full_slack (geometry_of h.rate h.ceiling) b ≡ true
    → beginning_of h b ≡ beginning (begun.Ready (new_session h.rate h.ceiling)) (clear_buffers (geometry_of h.rate h.ceiling))
unfolding beginning_of start_refusal
accepts events h b q fit =
    let none : start_refusal h.rate h.ceiling b ≡ 0 = pick_true _ _ _ (opened_in_table events h q) ∙ pick_true _ _ _ fit in
    pick_true _ _ _ (eq-eqb (start_refusal h.rate h.ceiling b) 0 none)
