pub mod SlotLemmas
pub mod Ahead
pub mod Comings
pub mod Trees
