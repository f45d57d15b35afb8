-- `recording_convert::judge` meets its contract: the entry is read, and an event is judged by `admit`.
use Rattle.recording_convert.proofs.judge.Goals as goal

pub returns-in-None : goal.returns-in-None
returns-in-None c = rw (← c.event_at-entry.ensures, c.in-None.is)

pub returns-in-Some : goal.returns-in-Some
returns-in-Some c = rw (← c.event_at-entry.ensures, c.in-Some.is) c.admit.ensures
