-- What `start` gives back: the session and the buffers before the first event.
use Rattle.std.specs.Prelude.{ℕ}
use Rattle.answers.specs.Refusals.{require, if_refused, none, outside_table, wrong_length}
use Rattle.scan.specs.Bins.{in_table, geometry_of, full_slack}
use Rattle.scan.specs.State.{Buffers}
use Rattle.scan.specs.Calls.{all_lengths}
use Rattle.recording.specs.declared.Header.{Header}
use Rattle.replay.specs.Log.{new_session, clear_buffers}
use Rattle.replay.specs.declared.Begun.{Begun}
use Rattle.replay.specs.declared.Begun.TheVariants as begun

-- the answer, and the lent buffers afterwards
pub record Beginning : Type 0 where
  pub begun : Begun
  pub buffers : Buffers

abbrev pub beginning : Begun → Buffers → Beginning
beginning r b = record { begun = r; buffers = b }

-- 1: rate or ceiling outside the table; 2: a lent buffer is not of the length that they give
unfoldable pub start_refusal : ℕ → ℕ → Buffers → ℕ
start_refusal rate ceiling b =
    require (in_table rate ceiling) outside_table
    (require (all_lengths full_slack (geometry_of rate ceiling) b) wrong_length
    none)

unfoldable pub beginning_of : Header → Buffers → Beginning
beginning_of h b =
    let n = start_refusal h.rate h.ceiling b in
    if_refused n
    (beginning (begun.Refused n) b)
    (beginning (begun.Ready (new_session h.rate h.ceiling)) (clear_buffers (geometry_of h.rate h.ceiling)))
