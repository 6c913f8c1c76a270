pub mod Spelling
pub mod Requests
pub mod Reading
pub mod Programs
