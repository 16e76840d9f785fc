pub mod Asked
pub mod Blamed
pub mod Formatting
pub mod Kept
pub mod Made
pub mod Opening
pub mod Printed
pub mod Sliced
