pub mod Ceil
pub mod Packing
pub mod Rounds
pub mod Levels
pub mod Slots
pub mod Places
pub mod Roots
pub mod Sha
pub mod Numbers
pub mod Counts
pub mod Growth
pub mod Rows
pub mod Sized
pub mod TreeLaws
pub mod Groups
mod Worked
