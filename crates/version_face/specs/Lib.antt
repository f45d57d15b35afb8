-- What the call returns.
pub mod Version
