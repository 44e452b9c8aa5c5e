pub mod Folder
pub mod Written
pub mod Refused
