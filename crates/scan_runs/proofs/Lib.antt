pub mod Passing
pub mod Stretching
pub mod Going
pub mod Determined
