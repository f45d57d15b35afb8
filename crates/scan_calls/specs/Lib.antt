-- How large the numbers of a state are that the refusals let pass. What the calls do is defined in crate scan.
pub mod Bounds
