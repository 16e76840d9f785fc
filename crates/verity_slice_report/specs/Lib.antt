pub mod Sliced
pub mod Runs
pub mod Verified
