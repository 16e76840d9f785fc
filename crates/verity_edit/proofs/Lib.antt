pub mod DeviceLemmas
pub mod CommitLemmas
mod OpeningLemmas
pub mod AnswerLemmas
mod RunLemmas
