-- Runs of near samples: what a run does, and what the functions behind it ask of a state.
pub mod Runs
pub mod Ready
