pub mod Details
pub mod Slices
