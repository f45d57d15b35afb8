-- Laws that the crates above cite: of sums and tables, of values rewritten in place, of the coarse search and what it finds, of tests and clearing.
pub mod Laws
pub mod Rewriting
pub mod Peaks
pub mod Greatest
pub mod Finite
pub mod Clearing
pub mod Quarters
