-- Near samples of the fine stage in runs: the call, and what it has to do with single pushes.
pub mod Handover
pub mod Ready
pub mod Singles
pub mod Told
