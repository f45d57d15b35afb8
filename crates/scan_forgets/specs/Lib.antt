-- Demand 3 of the code.
pub mod Happened
pub mod Statement
