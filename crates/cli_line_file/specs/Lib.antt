pub mod Faults
pub mod Files
pub mod Apart
pub mod Keeping
pub mod Looking
pub mod Settling
