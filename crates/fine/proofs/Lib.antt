-- The laws that a reader wants of the state, and what the proofs of its functions cite.
pub mod Equal
pub mod Powers
pub mod Laws
pub mod Numbers
pub mod Faithful
pub mod Determined
