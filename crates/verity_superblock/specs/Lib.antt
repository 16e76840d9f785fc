pub mod Superblock
pub mod Reading
pub mod Texts
pub mod Laws
pub mod Image
pub mod Line
pub mod LineLaws
