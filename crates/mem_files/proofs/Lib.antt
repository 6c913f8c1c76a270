pub mod NameKeys
pub mod ByteLists
pub mod Kept
pub mod TreeKeys
pub mod Trees
pub mod Parts
