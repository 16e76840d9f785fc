pub mod Verdicts
pub mod Reading
pub mod Noticed
