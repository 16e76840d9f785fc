pub mod Lookup
pub mod Snoc
pub mod Steps
pub mod Outcomes
pub mod Runs
pub mod Turns
pub mod Weaker
pub mod Asking
