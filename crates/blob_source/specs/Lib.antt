pub mod Source
pub mod Sink
pub mod Called
pub mod Told
pub mod Fetched
pub mod MessageFetchError
pub mod Memory
