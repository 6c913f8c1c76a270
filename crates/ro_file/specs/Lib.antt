pub mod Files
pub mod Opening
pub mod Contents
pub mod Holding
