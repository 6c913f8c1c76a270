pub mod Tree
pub mod Digests
pub mod Fed
pub mod Faults
pub mod Measured
pub mod Path
