pub mod Begins
pub mod Progress
pub mod Device
pub mod Parameters
pub mod Faults
pub mod Texts
pub mod Differences
pub mod Given
