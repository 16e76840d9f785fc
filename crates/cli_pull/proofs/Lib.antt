pub mod KeepingLemmas
pub mod Moments
pub mod Results
