pub mod StageLemmas
pub mod PlaceLemmas
mod Rests
