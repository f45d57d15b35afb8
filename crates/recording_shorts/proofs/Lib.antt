pub mod Laws
pub mod Patterns
pub mod Finding
pub mod Determined
