-- What the windows do, what the loops do with them, and that each loop comes to what a host comes to that holds the bytes which were read.
mod Moving
mod Judging
mod Ordering
mod Counting
pub mod JudgeReads
pub mod OrderReads
pub mod SortReads
