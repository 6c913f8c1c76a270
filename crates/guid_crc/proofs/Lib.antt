pub mod Divided
pub mod Spelled
