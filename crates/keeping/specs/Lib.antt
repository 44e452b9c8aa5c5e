pub mod Answers
pub mod Keeping
pub mod Kept
pub mod Told
