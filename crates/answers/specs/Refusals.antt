-- SPECIFICATION 3, refusal numbers: a name for each row of the table, and how a list of refusals is written in its order.
use Rattle.std.specs.Prelude.{ℕ, Bool, eqb}
use Rattle.answers.specs.Pick.{pick}

-- no refusal
abbrev pub none : ℕ
none = 0

-- rate, ceiling or fine span outside the table
abbrev pub outside_table : ℕ
outside_table = 1

-- a lent buffer is not of the length named
abbrev pub wrong_length : ℕ
wrong_length = 2

-- a scan, fine, tracker or ring state breaks one of its rules
abbrev pub broken_state : ℕ
broken_state = 3

-- a sample, correlation, envelope level or lag sum that would be read is NaN or infinite
abbrev pub not_finite : ℕ
not_finite = 4

-- index, delay, alignment or origin too large, or a push would pass 2^62
abbrev pub too_large : ℕ
too_large = 5

-- a near sample is offered while a full frame waits
abbrev pub frame_waits : ℕ
frame_waits = 6

-- a frame is to be scored and none is full
abbrev pub no_full_frame : ℕ
no_full_frame = 7

-- a line is none of a log, or its number does not rise. 8, 10 and 12 are numbers of tools: no call of the core answers them, and they stand in no log
abbrev pub not_a_log_line : ℕ
not_a_log_line = 8

-- a tracker's largest contradiction run is below its current one
abbrev pub inconsistent_record : ℕ
inconsistent_record = 9

-- one line of a list of refusals: the number where the rule is broken, else what the rest says
abbrev pub require : Bool → ℕ → ℕ → ℕ
require rule number rest = pick rule rest number

-- the refusals of `first` stand before the rest
abbrev pub before : ℕ → ℕ → ℕ
before first rest = pick (eqb first none) rest first

-- what a call gives: `refused` where it is refused with the number, `done` where the number is none
abbrev pub if_refused : {A : Type 0} → ℕ → A → A → A
if_refused number refused done = pick (eqb number none) done refused
