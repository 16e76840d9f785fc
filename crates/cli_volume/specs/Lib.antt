pub mod Keeping
pub mod Kept
pub mod Lines
pub mod Noting
pub mod Opening
pub mod Refusals
pub mod Superblocks
