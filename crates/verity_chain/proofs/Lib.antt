pub mod TableLaws
pub mod ChainLaw
pub mod ChainLemmas
pub mod FewLemmas
pub mod NoteLaws
pub mod NoteLemmas
pub mod CheckedLemmas
pub mod OriginLaws
