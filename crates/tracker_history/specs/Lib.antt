-- Histories of a tracker, request m's words and sentences about them, the verdicts told from these, and request f's largest run.
pub mod Histories
pub mod Sentences
pub mod Longest
