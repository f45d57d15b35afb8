-- Independence and demand 3 of the pair's code.
pub mod Happened
pub mod Statement
