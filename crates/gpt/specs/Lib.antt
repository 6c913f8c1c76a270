pub mod Entries
pub mod Fields
pub mod Grammar
pub mod Header
pub mod Image
pub mod Names
pub mod Runs
pub mod Rules
