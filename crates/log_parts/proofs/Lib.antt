-- A merge gives what the definitions by number say; what is named is a log; two logs and the other way round.
pub mod Numbers
pub mod Least
pub mod Merges
pub mod Named
pub mod Parts
pub mod Logs
pub mod Examples
pub mod Judging
pub mod Determined
pub mod Turning
pub mod InOrder
