pub mod Faults
pub mod Keeping
pub mod Opening
pub mod Printed
pub mod Superblocks
pub mod Words
