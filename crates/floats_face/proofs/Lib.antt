-- What the contracts come to.
pub mod Patterns
pub mod Determined
