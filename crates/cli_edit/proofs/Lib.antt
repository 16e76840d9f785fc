mod Apart
mod Doing
mod Keeping
mod Leaving
mod Scratching
mod Zeros
pub mod Answering
pub mod Cutting
