pub mod Refusals
pub mod Shut
