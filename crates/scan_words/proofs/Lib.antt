-- Laws that the proofs share, what callers cite, and what the layout comes to.
pub mod Given
mod Lengths
pub mod Chosen
pub mod LoadAfterStore
