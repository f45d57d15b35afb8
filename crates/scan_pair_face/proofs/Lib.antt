-- The order in which the pair's calls judge what they are lent.
pub mod Order
-- What the contracts come to.
pub mod Determined
