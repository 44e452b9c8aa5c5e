pub mod Asking
pub mod Serving
pub mod Connections
pub mod Laws
pub mod Conversation
