pub mod Vectors
pub mod Entries
pub mod Words
pub mod Looks
pub mod Scalars
pub mod Mixing
pub mod Bytes
