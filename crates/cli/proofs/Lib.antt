pub mod Within
pub mod Builds
pub mod CommandLines
