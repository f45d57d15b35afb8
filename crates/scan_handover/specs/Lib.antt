-- Near samples in runs (request a): what a run does, that it is what single pushes do, and what the functions behind it ask of their arguments.
pub mod Handover
pub mod Singles
pub mod Ready
pub mod InStreams
pub mod Told
