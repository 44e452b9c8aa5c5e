pub mod Lists
pub mod Rooms
pub mod Saying
pub mod Walks
pub mod Gathered
pub mod Ends
pub mod Numbers
pub mod Unread
