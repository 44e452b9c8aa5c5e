pub mod Line
pub mod Compared
