pub mod Blaming
pub mod Formatted
pub mod Keeping
pub mod Moving
pub mod Told
