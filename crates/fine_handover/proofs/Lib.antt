-- What holds of runs beside the contract, and what the proofs of the functions cite.
pub mod Filling
pub mod Calls
pub mod Alike
pub mod Examples
pub mod Determined
