pub mod Unwritten
