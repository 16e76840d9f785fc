pub mod Update
pub mod Walk
pub mod Refused
