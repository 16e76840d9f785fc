pub mod Blocks
pub mod Given
pub mod Moves
pub mod RawFile
pub mod Stores
pub mod Texts
pub mod Window
