pub mod Decimals
pub mod Uuids
