pub mod KeptCommits
pub mod Printing
