pub mod Finding
pub mod Stores
pub mod Report
pub mod Descent
