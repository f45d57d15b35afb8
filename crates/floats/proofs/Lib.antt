-- Of the definition: the rounding fact and that there is one nearest value (Round), plain distances (Distance).
pub mod Compare
pub mod Round
pub mod Distance
-- For the crates above: the functions are what the relations say (Laws), a level is finite (Levels), one result for each call.
pub mod Laws
pub mod Levels
pub mod Determined
-- From the definition to patterns, and what the code's steps rest on.
pub mod Pattern
pub mod Fractions
pub mod SquareRoots
pub mod Fields
pub mod Ties
pub mod Narrowing
pub mod LongDivision
pub mod RootFields
pub mod Readback
pub mod Finite
