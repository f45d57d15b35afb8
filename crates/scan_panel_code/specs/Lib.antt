-- Request j, of the code.
pub mod Happened
pub mod Statement
