pub mod Answered
pub mod Closed
pub mod Served
pub mod Uncommitted
pub mod UnderLemmas
pub mod WayLemmas
