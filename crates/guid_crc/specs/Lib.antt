pub mod Guids
pub mod Remainder
