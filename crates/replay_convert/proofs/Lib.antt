pub mod Structure
pub mod OneLog
pub mod Refusing
