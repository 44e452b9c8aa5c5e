pub mod Blobs
pub mod Storing
pub mod BlobError
pub mod Lending
