pub mod Outcome
pub mod OutcomeLookup
pub mod Recorded
pub mod LooksAt
pub mod Parts
