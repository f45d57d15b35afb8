-- What the contracts come to.
pub mod Determined
-- What the proofs of the reports share.
mod Reports
