-- What the contracts come to.
pub mod Determined
