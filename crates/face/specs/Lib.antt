-- What all calls of the C face have in common.
pub mod Face
