pub mod Offsets
pub mod Patches
pub mod Components
pub mod Firsts
pub mod Ranges
pub mod Writes
