pub mod Frames
pub mod Untouched
pub mod ParentLemmas
pub mod ChildLemmas
pub mod Drafts
pub mod Applied
pub mod WriteLemmas
pub mod LeafLemmas
