pub mod Answered
pub mod Lacking
pub mod Refused
pub mod Texts
pub mod Recalled
