pub mod BlobLemmas
pub mod OneDigest
