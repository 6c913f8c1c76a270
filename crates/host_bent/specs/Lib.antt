pub mod Bent
