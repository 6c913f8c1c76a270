pub mod Bending
