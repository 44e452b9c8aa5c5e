pub mod DigestValue
pub mod Digest
pub mod Text
pub mod Hashing
pub mod Body
