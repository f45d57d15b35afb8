pub mod Whole
pub mod Converting
pub mod Inputs
