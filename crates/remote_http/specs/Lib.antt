pub mod Fields
pub mod Found
pub mod Requests
pub mod Ranges
pub mod Statuses
