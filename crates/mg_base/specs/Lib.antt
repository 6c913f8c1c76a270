pub mod Errnos
pub mod Reading
pub mod Salts
