pub mod Geometry
pub mod Faults
pub mod Texts
pub mod Kept
pub mod Laws
