pub mod PlaceLemmas
pub mod BelowLemmas
pub mod KeptLemmas
pub mod RunLemmas
pub mod ReadLemmas
pub mod VerifiedLaws
