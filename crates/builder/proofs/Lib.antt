pub mod Serving
pub mod Refusing
mod Failing
mod Staying
mod AsRun
mod TwoStepsOpened
mod TwoStepsRuns
