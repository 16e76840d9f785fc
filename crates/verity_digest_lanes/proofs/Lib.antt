pub mod ChMaj
pub mod Parts
pub mod Rounds
pub mod Turned
