mod Blaming
mod Keeping
mod Refusing
mod Reporting
mod SliceReporting
mod Talks
pub mod Unopened
