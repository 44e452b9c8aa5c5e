pub mod Built
pub mod Faults
pub mod Lines
pub mod Why
pub mod Telling
pub mod AsRun
pub mod TwoSteps
