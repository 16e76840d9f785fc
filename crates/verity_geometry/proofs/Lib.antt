pub mod Shapes
pub mod OfShape
