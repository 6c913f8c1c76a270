pub mod Fields
pub mod Values
pub mod Lines
pub mod Spelling
pub mod Ends
pub mod Lists
