-- Each contract is a step of the rules (Made), a run so many of them (Runs); calls in turn are a list of crate scan_pair (Followed), of which its theorems speak (Forgets).
pub mod Made
pub mod Runs
pub mod Followed
pub mod Forgets
