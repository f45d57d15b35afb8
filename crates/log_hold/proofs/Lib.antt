pub mod Holding
pub mod Seeking
pub mod Determined
