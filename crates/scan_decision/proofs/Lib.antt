pub mod Rivals
pub mod Fourth
