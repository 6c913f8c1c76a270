pub mod Held
pub mod Told
pub mod Did
pub mod Streams
pub mod Folders
pub mod Mem
pub mod Room
