-- What holds of windows beside the contracts, and what the proofs of the functions cite.
pub mod Pastes
pub mod Slots
pub mod Windows
pub mod Answers
pub mod Examples
pub mod Determined
