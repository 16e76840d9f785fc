pub mod FileLemmas
pub mod Moments
pub mod Parts
pub mod Tears
pub mod Zeros
