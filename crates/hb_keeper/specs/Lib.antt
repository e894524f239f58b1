pub mod Answers
pub mod Counts
pub mod Keeps
pub mod PageKeys
