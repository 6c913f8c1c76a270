pub mod Names
pub mod Tables
pub mod Inodes
pub mod Dirents
pub mod Lines
pub mod Tree
