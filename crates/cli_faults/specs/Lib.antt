pub mod Blames
pub mod Commands
pub mod Errors
pub mod Faults
pub mod Misread
pub mod Words
