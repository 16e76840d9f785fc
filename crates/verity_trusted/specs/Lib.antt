pub mod Under
pub mod Line
pub mod Lines
