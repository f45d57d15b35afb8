-- What all calls on a state have in common: what they answer and leave, and the order in which they judge what they are lent.
use Rattle.std.specs.Prelude.{ℕ, Bool, List}
use Rattle.answers.specs.Refusals.{none, outside_table, wrong_length, require, if_refused}

-- A call's number, which is a refusal below 16, and what is then in the words of the state, in the list for values and in the other lists that it was lent.
-- If a call is lent no list for values, the values are [].
pub record Left (B : Type 0) : Type 0 where
  pub number : ℕ
  pub words : List ℕ
  pub values : List ℕ
  pub buffers : B

abbrev pub left : {B : Type 0} → ℕ → List ℕ → List ℕ → B → Left B
left n ws vs b = record { number = n; words = ws; values = vs; buffers = b }

-- ---- the order of refusals (SPECIFICATION 3): 1 before 2, and both before what the call itself refuses

-- Refuses a setting outside the table, then a list that does not have the length of its layout. A making judges no more than this; its setting is the one given.
unfoldable pub setting_first : Bool → Bool → ℕ
setting_first allowed fitting =
    require allowed outside_table
    (require fitting wrong_length
    none)

-- A call on a state reads the setting from it, so a state of another length is refused first: nothing can be read from it.
unfoldable pub judged : Bool → Bool → Bool → ℕ
judged stateFits allowed valuesFit =
    require stateFits wrong_length
    (setting_first allowed valuesFit)

-- A call that is refused with n leaves all that it was lent unchanged.
unfoldable pub unless_refused : {B : Type 0} → ℕ → List ℕ → List ℕ → B → Left B → Left B
unless_refused n ws vs b done = if_refused n (left n ws vs b) done
