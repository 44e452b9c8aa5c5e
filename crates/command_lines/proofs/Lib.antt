pub mod Called
pub mod Commands
pub mod Defaults
pub mod Rows
pub mod Understood
pub mod Walking
