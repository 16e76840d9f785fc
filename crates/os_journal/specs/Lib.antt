pub mod Blamed
pub mod Journals
pub mod Names
