-- The profile's calls as code: what its making makes of the scan's.
pub mod Made
