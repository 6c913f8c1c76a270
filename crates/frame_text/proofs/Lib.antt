pub mod Payloads
pub mod Digits
pub mod Uuids
pub mod Lines
pub mod Texts
pub mod Streams
pub mod Programs
