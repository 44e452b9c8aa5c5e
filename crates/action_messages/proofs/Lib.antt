pub mod Strings
pub mod Sorted
pub mod Digests
pub mod Joins
pub mod SettingCodec
pub mod PlatformCodec
pub mod FrameCodec
pub mod ActionCodec
pub mod Searches
pub mod Apart
pub mod Commands
pub mod CommandCodec
pub mod Results
pub mod Merging
pub mod Places
pub mod ListedPaths
pub mod EachOnce
pub mod SameOrder
pub mod ReadOnce
mod Reordered
pub mod Written
pub mod NestedOrder
pub mod Agreeing
pub mod Pairs
pub mod Decoding
mod Examples
