pub mod Finding
pub mod Recording
pub mod Booting
pub mod Wording
