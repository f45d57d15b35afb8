-- The words of the contract of `observe`, and what its parts say to each other. What the call does is defined in crate scan.
pub mod Observing
pub mod Counting
