-- The laws that a reader wants of the gate, and what the proofs of its functions cite.
pub mod Laws
pub mod Sound
pub mod Numbers
pub mod Faithful
pub mod Determined
