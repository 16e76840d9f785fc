pub mod Lines
pub mod Shown
pub mod Standing
pub mod Faults
pub mod Outcome
pub mod Top
