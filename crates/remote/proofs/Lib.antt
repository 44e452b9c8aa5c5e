pub mod Flows
pub mod Endings
pub mod Replies
pub mod Lines
pub mod Storing
mod Entries
