pub mod Marks
pub mod Hosts
pub mod Refusals
