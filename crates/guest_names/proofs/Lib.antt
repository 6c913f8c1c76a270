pub mod Apart
pub mod Nodes
pub mod Files
pub mod Stepping
pub mod Making
pub mod Sound
