-- Two logs walked from the bytes at hand.
pub mod Taking
pub mod Judging
pub mod Beside
pub mod Passing
pub mod Hosts
