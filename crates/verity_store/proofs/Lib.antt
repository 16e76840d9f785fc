pub mod BlockLemmas
pub mod FileLemmas
pub mod GivenLemmas
pub mod MoveLemmas
pub mod StoreLemmas
pub mod RunLemmas
pub mod WindowLemmas
