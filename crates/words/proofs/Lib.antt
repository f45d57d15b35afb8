-- Laws that the proofs share.
mod Patterns
-- For the crates above: what is stored loads again.
pub mod Back
