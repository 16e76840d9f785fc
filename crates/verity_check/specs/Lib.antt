pub mod Range
pub mod Texts
pub mod Cache
pub mod Refusal
pub mod Run
pub mod Verifier
pub mod Holds
pub mod Reported
