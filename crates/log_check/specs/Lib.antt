pub mod Checked
pub mod Checking
