pub mod Slices
pub mod Kept
