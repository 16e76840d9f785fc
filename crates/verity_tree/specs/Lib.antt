pub mod Open
pub mod Filled
pub mod Climb
pub mod Waits
pub mod Kept
pub mod Coming
pub mod Opens
pub mod Ahead
