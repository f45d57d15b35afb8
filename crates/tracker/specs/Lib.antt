-- The tracker: its state and its rules, one cycle, and what its answers tell.
pub mod Tracker
pub mod Cycle
pub mod Told
pub mod Rules
