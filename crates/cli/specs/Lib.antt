pub mod Built
pub mod Ended
pub mod Help
pub mod Progress
pub mod Refused
pub mod Running
