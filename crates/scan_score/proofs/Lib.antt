pub mod Slots
pub mod Reading
pub mod Passing
pub mod Steps
pub mod Determined
pub mod Counting
