pub mod Standing
pub mod Planted
pub mod Promises
