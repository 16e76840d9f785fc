pub mod Moments
pub mod Settling
pub mod Standings
pub mod Tops
