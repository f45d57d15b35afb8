pub mod Halting
pub mod Decoding
