pub mod Folder
pub mod Log
pub mod Held
pub mod Past
