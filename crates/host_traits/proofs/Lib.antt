pub mod Talking
pub mod Doing
pub mod Exact
pub mod Places
pub mod Holding
pub mod Prefixes
