pub mod Judging
pub mod Silently
pub mod Events
pub mod Within
pub mod Taking
