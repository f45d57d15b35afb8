-- The coarse scan, as definitions on values: a reader holds them beside SPECIFICATION, section by section.
pub mod Bins
pub mod State
pub mod Blocks
pub mod Scoring
pub mod Rival
pub mod Told
pub mod Calls
pub mod Steps
pub mod Streams
pub mod Along
pub mod Banked
pub mod Work
pub mod Health
pub mod FourFacts
pub mod Compact
pub mod Holes
