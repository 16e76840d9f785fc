pub mod Identities
pub mod Parts
pub mod Reached
pub mod VolumeFiles
