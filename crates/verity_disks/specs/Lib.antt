pub mod Disks
pub mod Past
pub mod Tearing
