pub mod PastLaws
pub mod PortionLemmas
