-- What the contract comes to.
pub mod Determined
