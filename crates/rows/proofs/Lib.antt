pub mod Table
pub mod Most
