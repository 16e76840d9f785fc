pub mod Committing
pub mod Noting
