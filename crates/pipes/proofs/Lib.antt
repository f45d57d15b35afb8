pub mod Growing
pub mod Going
