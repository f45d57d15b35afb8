-- What is told of two logs, as text.
pub mod Texts
pub mod Calls
