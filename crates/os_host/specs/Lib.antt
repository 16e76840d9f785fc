pub mod Lengths
pub mod Locks
pub mod Parts
