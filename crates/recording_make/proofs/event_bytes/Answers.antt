-- `recording_make::event_bytes` meets its contract.
use Rattle.recording_make.proofs.event_bytes.Goals as goal

pub returns-in-Played : goal.returns-in-Played
returns-in-Played c = rw c.in-Played.is c.entry_bytes.ensures

pub returns-in-Heard : goal.returns-in-Heard
returns-in-Heard c = rw c.in-Heard.is c.entry_bytes-in-Heard.ensures

pub returns-in-Over : goal.returns-in-Over
returns-in-Over c = rw c.in-Over.is
