-- The worked numbers of SPECIFICATION 15.
pub mod Table
pub mod Most
