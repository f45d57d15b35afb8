-- The pair's calls: what a run does, and the lent lists of a scored frame with what the call gave back.
pub mod Runs
pub mod Observing
