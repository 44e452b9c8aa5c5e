pub mod Digests
pub mod Puts
pub mod Asking
pub mod Calling
