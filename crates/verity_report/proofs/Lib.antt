pub mod OwnLemmas
pub mod RowCounts
pub mod DescentLemmas
