mod Reading
mod SameDigest
