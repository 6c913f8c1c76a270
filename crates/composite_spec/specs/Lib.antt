pub mod Said
pub mod Wire
pub mod Reading
pub mod Spelling
pub mod Writing
