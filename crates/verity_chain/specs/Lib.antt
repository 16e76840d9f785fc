pub mod Table
pub mod Chain
pub mod Right
pub mod Stores
pub mod Texts
pub mod Notes
pub mod Origin
pub mod Checked
