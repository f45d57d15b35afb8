pub mod Laws
pub mod Ranges
pub mod Guesses
pub mod Answers
pub mod Theorems
pub mod Determined
