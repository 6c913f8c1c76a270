pub mod Fitting
pub mod Sessions
pub mod Seals
pub mod Passing
pub mod Lies
pub mod Naming
pub mod Measures
pub mod Writes
