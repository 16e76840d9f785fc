pub mod Hash
pub mod Texts
pub mod Padded
pub mod Stored
pub mod Tree
pub mod Shape
pub mod Rows
pub mod Laws
