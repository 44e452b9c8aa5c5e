pub mod Workshop
pub mod Laying
pub mod Collected
pub mod Walking
pub mod Running
pub mod Process
