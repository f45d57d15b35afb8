-- The laws that a reader wants of the peak rule, and what the proofs of its functions cite.
pub mod Laws
pub mod Greatest
pub mod Ties
pub mod Sound
pub mod Numbers
pub mod Faithful
pub mod Determined
