pub mod Files
pub mod Stocking
pub mod Keeping
