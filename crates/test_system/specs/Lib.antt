pub mod Files
pub mod Identities
pub mod Formatted
